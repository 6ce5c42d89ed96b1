-- `Predicate::lowest` meets its contract: the words before the one looked at are 0. Assumes nothing.
use Rattle.predicates.proofs.WordSearch.{Below}
use Rattle.predicates.proofs.Predicate.lowest.Given as goal

abbrev pub invariant-loop-i : goal.invariant-loop-i
invariant-loop-i l = Below l.fn.self l.i
