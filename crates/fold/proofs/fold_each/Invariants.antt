-- `fold_each` meets its contract. Assumes nothing.
use Rattle.fold.proofs.Folding.{Folded}
use Rattle.fold.proofs.fold_each.Given as goal

abbrev pub invariant-loop-at : goal.invariant-loop-at
invariant-loop-at l = Folded l.positions l.initial.title l.title l.at-index
