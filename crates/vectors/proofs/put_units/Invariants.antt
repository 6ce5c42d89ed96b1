-- `put_units`: what is passed is what the bytes say. Assumes nothing.
use mathlib.Core.Path.{◌≡◌}
use Prim.Native.Nat.{ℕ, ◌*◌, ◌<◌}
use lib.ListN.{take, drop, get_or}
use Rattle.octets.specs.Bytes.{value}
use Rattle.vectors.proofs.put_units.Given as goal

abbrev pub invariant-loop-i : goal.invariant-loop-i
invariant-loop-i l = (k : ℕ) → k < l.i → get_or l.title k 0 ≡ value (take 2 (drop (k * 2) l.bs))
