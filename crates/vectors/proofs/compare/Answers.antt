-- `compare` ends: each record takes one byte at least. Assumes nothing.
use mathlib.Core.Path.{ap}
use native.Mathlib.Omega.{arith}
use lib.ListN.{length, length-drop, length-take}
use Rattle.vectors.proofs.compare.Goals as goal

pub loop-left-smaller : goal.loop-left-smaller
loop-left-smaller g c =
    let e = simp (length-drop, length-take) at (ap length c.past_block-left.ensures) in
    omega (arith, e)
