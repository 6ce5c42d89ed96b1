-- `fold_unit` meets its contract. Assumes nothing.
use Prim.Native.Nat.{◌≤◌}
use native.Mathlib.Omega.{arith}
use borrow.Author.Rules.{rules}
use Rattle.bits.specs.Search.{some}
use Rattle.fold.specs.Table.{fold_unit}
use Rattle.fold.proofs.Units.{below_a, capital, above_z, past_latin, lettered}
use Rattle.fold.proofs.fold_unit.Goals as goal

pub returns-in-65-to-90 : goal.returns-in-65-to-90
returns-in-65-to-90 c = capital c.args.u (omega arith) (omega arith)

-- the array is tested here, place by place
pub returns-in-192-to-255 : goal.returns-in-192-to-255
unfolding some fold_unit
returns-in-192-to-255 c =
    let low : 192 ≤ c.args.u = omega arith in
    let high : c.args.u ≤ 255 = omega arith in
    search (lettered, rules) depth 6

pub returns-in_default : goal.returns-in_default
returns-in_default c = below_a c.args.u (omega arith)

pub returns-in_default-2 : goal.returns-in_default-2
returns-in_default-2 c = above_z c.args.u (omega arith) (omega arith)

pub returns-in_default-3 : goal.returns-in_default-3
returns-in_default-3 c = past_latin c.args.u (omega arith)
