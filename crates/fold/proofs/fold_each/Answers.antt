-- `fold_each` meets its contract. Assumes nothing.
use mathlib.Core.Path.{refl}
use native.Mathlib.Omega.{arith}
use Rattle.fold.proofs.Folding.{none_folded, one_folded}
use Rattle.fold.proofs.fold_each.Goals as goal

pub loop-at-init : goal.loop-at-init
loop-at-init c = (omega arith, (none_folded c.args.positions.now c.args.title.now, refl))

pub loop-at-preserved : goal.loop-at-preserved
loop-at-preserved c =
    let a = c.args in
    one_folded a.positions.now a.title.now c.loop-at.title _ c.loop-at.at-index c.loop-at.invariant c.loop-at-test.true c.fold_one.ensures c.fold_one.auto.title
