-- `fill` meets its contract: what is left to read is stored over what was. Assumes nothing.
use mathlib.Core.Path.{◌≡◌}
use Prim.Native.Nat.{◌*◌, ◌-◌}
use lib.ListN.{length, drop}
use lib.Seq.{sets}
use Rattle.octets.specs.Bytes.{value, parts}
use Rattle.image.proofs.reader.fill.Given as goal

abbrev pub invariant-loop-i : goal.invariant-loop-i
invariant-loop-i l = sets l.list l.i (parts value 4 (length l.list - l.i) (drop (l.i * 4) l.content)) ≡ parts value 4 (length l.list) l.content
