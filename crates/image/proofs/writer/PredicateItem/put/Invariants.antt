-- `put` meets its contract: what is left to write is stored over what was. Assumes nothing.
use mathlib.Core.Path.{◌≡◌}
use Prim.Native.Nat.{◌*◌}
use lib.Seq.{sets}
use Rattle.image.specs.Image.{predicate_bytes}
use Rattle.image.proofs.PredicateBytes.{bytes_from}
use Rattle.image.proofs.writer.PredicateItem.put.Given as goal

abbrev pub invariant-loop-j : goal.invariant-loop-j
invariant-loop-j l = sets l.slice (l.j * 8) (bytes_from l.n l.fn.self l.j) ≡ predicate_bytes l.n l.fn.self
