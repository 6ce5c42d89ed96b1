-- `Predicate::count` meets its contract: the ones of the four words. Assumes nothing.
use Prim.Native.Nat.{ℕ, ◌≤◌}
use native.Mathlib.Omega.{arith}
use Rattle.bits.specs.Search.{count}
use Rattle.bits.specs.Bits.{test_bit}
use Rattle.bits.proofs.Searches.{count-le}
use Rattle.predicates.proofs.WordSearch.{count-first, count_words}
use Rattle.predicates.proofs.Words.{word}
use Rattle.predicates.proofs.Predicate.count.Goals as goal
use Rattle.predicates.proofs.Predicate.count.Goals.{After-ones-2}

-- the ones of a word
few : (c : After-ones-2) (q : ℕ) → count (test_bit (word c.args.self q)) 64 ≤ 64
few c q = count-le (test_bit (word c.args.self q)) 64

pub returns-then-w-eq0 : goal.returns-then-w-eq0
returns-then-w-eq0 c = count-first c.args.self _ c.ones.ensures c.if-w-eq0.true

pub overflow_add-result : goal.overflow_add-result
overflow_add-result c = omega (arith, few (goal.at.overflow_add-result c).After-ones-2 0, few (goal.at.overflow_add-result c).After-ones-2 1)

pub overflow_add-result-2 : goal.overflow_add-result-2
overflow_add-result-2 c = omega (arith, few (goal.at.overflow_add-result-2 c).After-ones-2 0, few (goal.at.overflow_add-result-2 c).After-ones-2 1, few (goal.at.overflow_add-result-2 c).After-ones-2 2)

pub overflow_add-result-3 : goal.overflow_add-result-3
overflow_add-result-3 c = omega (arith, few (goal.at.overflow_add-result-3 c).After-ones-2 0, few (goal.at.overflow_add-result-3 c).After-ones-2 1, few (goal.at.overflow_add-result-3 c).After-ones-2 2, few (goal.at.overflow_add-result-3 c).After-ones-2 3)

pub returns : goal.returns
returns c =
    count_words c.args.self _ _ _ _ c.ones-2.ensures c.ones-3.ensures c.ones-4.ensures c.ones-5.ensures
