-- `Predicate::first` meets its contract, a word at a time; where the elements end in the first word the others are 0. Assumes nothing.
use mathlib.Core.Path.{◌≡◌, sym, ap, ap₂, ◌∙◌}
use Prim.Native.Nat.{ℕ, ◌+◌, ◌%◌, ◌≤◌}
use native.Mathlib.Omega.{arith}
use lib.Bits.{bit_and, and_zero_r}
use borrow.Author.Rules.{rules}
use borrow.Author.Tests.{le-ltb}
use Rattle.bits.specs.Bits.{number, below}
use Rattle.bits.specs.Size.{shift}
use Rattle.bits.proofs.Bits.{number-none}
use Rattle.bits.proofs.Sizes.{shift-lt}
use Rattle.predicates.specs.Predicate.{spread, between}
use Rattle.predicates.proofs.ElementBits.{first_word}
use Rattle.predicates.proofs.Words.{four_words}
use Rattle.predicates.proofs.Predicate.first.Goals as goal
use Rattle.predicates.proofs.Predicate.first.Goals.{After-element_mask-e}

-- a word of the mask under the bits below the end
word_is : (c : After-element_mask-e) (at word : ℕ) → at % 64 ≡ 0 → at ≤ 192 → word ≡ bit_and c.element_mask-e.result (number (below c.end_of-end.result) at 64)
    → let a = c.args in word ≡ number (spread (shift a.size) (between 0 a.n)) at 64
word_is c at word h l e =
    let a = c.args in
    e ∙ ap₂ bit_and c.element_mask-e.ensures (ap (λ (m : ℕ). number (below m) at 64) c.end_of-end.ensures) ∙ first_word (shift a.size) a.n at (shift-lt a.size) h l

-- none is set past the end
past_is : (c : After-element_mask-e) (at : ℕ) → at % 64 ≡ 0 → at ≤ 192 → c.end_of-end.result ≤ at
    → let a = c.args in 0 ≡ number (spread (shift a.size) (between 0 a.n)) at 64
unfolding below
past_is c at h l e =
    word_is c at 0 h l (sym (and_zero_r c.element_mask-e.result) ∙ ap (bit_and c.element_mask-e.result) (sym (number-none (below c.end_of-end.result) at 64 (λ i m. le-ltb (at + i) c.end_of-end.result (omega arith)))))

pub returns-then-end-le64 : goal.returns-then-end-le64
returns-then-end-le64 c =
    let a = c.args in
    let g = (goal.at.returns-then-end-le64 c).After-element_mask-e in
    four_words (spread (shift a.size) (between 0 a.n)) _ _ _ _ (word_is g 0 _ (omega arith) (omega arith) (search rules))
    (past_is g 64 (omega arith) (omega arith) (omega arith)) (past_is g 128 (omega arith) (omega arith) (omega arith)) (past_is g 192 (omega arith) (omega arith) (omega arith))

pub returns : goal.returns
returns c =
    let a = c.args in
    let g = (goal.at.returns c).After-element_mask-e in
    four_words (spread (shift a.size) (between 0 a.n)) _ _ _ _
    (word_is g 0 _ (omega arith) (omega arith) (search rules)) (word_is g 64 _ (omega arith) (omega arith) (search rules))
    (word_is g 128 _ (omega arith) (omega arith) (search rules)) (word_is g 192 _ (omega arith) (omega arith) (search rules))
