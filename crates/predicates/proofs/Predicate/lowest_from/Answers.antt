-- `Predicate::lowest_from` meets its contract: the words before the one looked at have no such bit. Assumes nothing.
use mathlib.Core.Path.{refl, sym, ap, ◌∙◌}
use Prim.Native.Nat.{ℕ, ◌+◌, ◌*◌}
use native.Mathlib.Omega.{arith}
use borrow.Author.Rules.{rules}
use Rattle.bits.specs.Bits.{test_bit}
use Rattle.bits.specs.Size.{shift}
use Rattle.bits.proofs.Searches.{first_end, first-le}
use Rattle.bits.proofs.Sizes.{shift-lt}
use Rattle.predicates.proofs.WordSearch.{reached_first, reached_next, reached_found, reached_none, element_search}
use Rattle.predicates.proofs.Words.{words_of}
use Rattle.predicates.proofs.Predicate.lowest_from.Goals as goal

pub returns-then-from-ge256 : goal.returns-then-from-ge256
returns-then-from-ge256 c = sym (first_end _ _ _ c.if-from-ge256.true)

pub loop-word-init : goal.loop-word-init
loop-word-init c = reached_first _ (search (rules, words_of)) _ _ _ (omega arith) (omega arith) refl

pub overflow_add-found : goal.overflow_add-found
overflow_add-found c = omega (arith, c.loop-word.invariant.place, first-le (test_bit c.loop-word.word) 64)

pub loop-word-preserved : goal.loop-word-preserved
loop-word-preserved c = reached_next c.loop-word.invariant (search (rules, words_of)) (omega arith) c.if-word-ne0.false (omega arith)

pub returns-then-word-ne0 : goal.returns-then-word-ne0
returns-then-word-ne0 c =
    let size = c.args.size in
    ap (λ (x : ℕ). c.loop-word.i * 64 + x) c.lowest_bit.ensures ∙ reached_found c.loop-word.invariant c.if-word-ne0.true
    ∙ element_search c.loop-word.invariant (shift size) c.element_mask-mask.ensures (shift-lt size)

pub returns-then-i-ge4 : goal.returns-then-i-ge4
returns-then-i-ge4 c =
    let size = c.args.size in
    reached_none c.loop-word.invariant c.if-word-ne0.false (omega arith) ∙ element_search c.loop-word.invariant (shift size) c.element_mask-mask.ensures (shift-lt size)
