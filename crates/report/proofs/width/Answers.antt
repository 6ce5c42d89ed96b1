-- `width` meets its contract. Assumes nothing.
use mathlib.Core.Path.{◌≡◌}
use Prim.Native.Nat.{◌+◌}
use native.Mathlib.Omega.{arith}
use lib.ListN.{length}
use Rattle.report.specs.Lines.{decimal}
use Rattle.report.proofs.Digits.{length_logarithm, length_most}
use Rattle.report.proofs.width.Goals as goal

pub returns : goal.returns
returns c =
    let n = c.args.n in
    let e = c.checked_ilog10.ensures in
    let d : c.unwrap_or.result + 1 ≡ length (decimal n) = rw c.unwrap_or.ensures (length_logarithm n _ e.none e.power_le e.next_power_gt) in
    (d, omega (arith, length_most 9 n (omega arith)))
