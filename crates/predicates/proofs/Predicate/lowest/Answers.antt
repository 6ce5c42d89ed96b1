-- `Predicate::lowest` meets its contract: the words before the one looked at are 0. Assumes nothing.
use native.Mathlib.Omega.{arith}
use borrow.Author.Rules.{rules}
use Rattle.bits.specs.Bits.{test_bit}
use Rattle.bits.proofs.Searches.{first-le}
use Rattle.predicates.proofs.WordSearch.{below-zero, below_next, lowest_in, lowest_none}
use Rattle.predicates.proofs.Words.{words_of, word}
use Rattle.predicates.proofs.Predicate.lowest.Goals as goal

pub loop-i-init : goal.loop-i-init
loop-i-init c = below-zero c.args.self

pub overflow_add-result : goal.overflow_add-result
overflow_add-result c = omega (arith, first-le (test_bit (word c.args.self c.loop-i.i)) 64)

pub returns-then-word-ne0 : goal.returns-then-word-ne0
returns-then-word-ne0 c =
    lowest_in c.args.self (search (rules, words_of)) c.loop-i.i _ c.loop-i-test.true c.loop-i.invariant c.if-word-ne0.true (omega arith)

pub loop-i-preserved : goal.loop-i-preserved
loop-i-preserved c = below_next c.args.self c.loop-i.i c.loop-i.invariant c.if-word-ne0.false

pub returns : goal.returns
returns c = lowest_none c.args.self (λ j h. c.loop-i.invariant j (omega arith))
