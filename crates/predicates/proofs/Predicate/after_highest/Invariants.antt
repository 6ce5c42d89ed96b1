-- `Predicate::after_highest` meets its contract: the words past the one looked at are 0. Assumes nothing.
use Rattle.predicates.proofs.WordSearch.{From}
use Rattle.predicates.proofs.Predicate.after_highest.Given as goal

abbrev pub invariant-loop-i : goal.invariant-loop-i
invariant-loop-i l = From l.fn.self l.i
