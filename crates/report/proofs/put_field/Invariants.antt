-- `put_field` meets its contract: what is left to write is stored over what was. Assumes nothing.
use mathlib.Core.Path.{◌≡◌}
use lib.ListN.{length}
use lib.Seq.{sets}
use Rattle.report.specs.Lines.{digits}
use Rattle.report.proofs.put_field.Given as goal

abbrev pub invariant-loop-i : goal.invariant-loop-i
invariant-loop-i l =
    (length l.buffer ≡ length l.initial.buffer) × (sets l.buffer l.at (digits l.base l.i l.rest) ≡ sets l.initial.buffer l.at (digits l.base l.k l.v))
