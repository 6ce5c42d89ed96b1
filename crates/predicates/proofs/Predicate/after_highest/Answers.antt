-- `Predicate::after_highest` meets its contract: the words past the one looked at are 0. Assumes nothing.
use Prim.Native.Nat.{◌-◌}
use mathlib.Core.Logic.{inl, inr}
use mathlib.Core.Path.{refl}
use native.Mathlib.Omega.{arith}
use borrow.Author.Rules.{rules}
use Rattle.bits.specs.Bits.{test_bit}
use Rattle.bits.proofs.Searches.{last_le}
use Rattle.predicates.specs.Words.{Words}
use Rattle.predicates.proofs.WordSearch.{from_four, from_pred, highest_in, last_in}
use Rattle.predicates.proofs.Words.{words_of, word}
use Rattle.predicates.proofs.Predicate.after_highest.Goals as goal

pub loop-i-init : goal.loop-i-init
loop-i-init c = from_four c.args.self (search (rules, words_of))

pub overflow_add-result : goal.overflow_add-result
overflow_add-result c = omega (arith, last_le (test_bit (word c.args.self (c.loop-i.i - 1))) 64)

pub returns-then-word-ne0 : goal.returns-then-word-ne0
returns-then-word-ne0 c =
    let p = c.args.self in
    let ok : Words p = search (rules, words_of) in
    highest_in p (c.loop-i.i - 1) _ (omega arith) (λ j h. c.loop-i.invariant j (omega arith)) (inl (last_in _ (ok.fit (c.loop-i.i - 1)) c.if-word-ne0.true)) (omega arith)

pub loop-i-preserved : goal.loop-i-preserved
loop-i-preserved c = from_pred c.args.self c.loop-i.i c.loop-i.invariant c.if-word-ne0.false

pub returns : goal.returns
returns c = highest_in c.args.self 0 _ (omega arith) (λ j h. c.loop-i.invariant j (omega arith)) (inr refl) (omega arith)
