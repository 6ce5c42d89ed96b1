-- `start_of` meets its contract: the sections that were passed end where the next begins. Assumes nothing.
use mathlib.Core.Path.{◌≡◌}
use Rattle.image.specs.Sections.{sections, start_of}
use Rattle.image.proofs.sections.start_of.Given as goal

abbrev pub invariant-loop-i : goal.invariant-loop-i
invariant-loop-i l = l.rest ≡ start_of (sections l.vl) l.i l.image
