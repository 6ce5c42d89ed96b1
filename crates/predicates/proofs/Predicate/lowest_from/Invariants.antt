-- `Predicate::lowest_from` meets its contract: the words before the one looked at have no such bit. Assumes nothing.
use Prim.Native.Nat.{◌-◌}
use Rattle.predicates.proofs.WordSearch.{Reached}
use Rattle.predicates.proofs.Predicate.lowest_from.Given as goal

abbrev pub invariant-loop-word : goal.invariant-loop-word
invariant-loop-word l = Reached l.self l.mask l.from l.i l.word

abbrev pub decreases-loop-word : goal.decreases-loop-word
decreases-loop-word l = 4 - l.i
