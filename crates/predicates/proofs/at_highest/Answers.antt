-- `at_highest` meets its contract: the words past the one looked at are 0. Assumes nothing.
use Prim.Native.Nat.{◌-◌}
use native.Mathlib.Omega.{arith}
use borrow.Author.Rules.{rules}
use Rattle.bits.specs.Bits.{test_bit}
use Rattle.bits.proofs.Searches.{last_le}
use Rattle.predicates.proofs.WordSearch.{from_four, from_pred, highest_test, highest_none}
use Rattle.predicates.proofs.Words.{words_of, word}
use Rattle.predicates.proofs.at_highest.Goals as goal

pub loop-i-init : goal.loop-i-init
loop-i-init c = from_four c.args.mask (search (rules, words_of))

pub overflow_add-bit_length : goal.overflow_add-bit_length
overflow_add-bit_length c = omega (arith, last_le (test_bit (word c.args.mask (c.loop-i.i - 1))) 64)

pub returns-then-word-ne0 : goal.returns-then-word-ne0
returns-then-word-ne0 c =
    highest_test c.args.mask c.args.res (search (rules, words_of)) (c.loop-i.i - 1) (omega arith) (λ j h. c.loop-i.invariant j (omega arith)) c.if-word-ne0.true _ _
    c.bit_length.ensures c.bit_of.ensures

pub loop-i-preserved : goal.loop-i-preserved
loop-i-preserved c = from_pred c.args.mask c.loop-i.i c.loop-i.invariant c.if-word-ne0.false

pub returns : goal.returns
returns c = highest_none c.args.mask c.args.res (λ j h. c.loop-i.invariant j (omega arith))
