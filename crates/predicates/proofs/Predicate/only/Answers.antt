-- `Predicate::only` meets its contract: the bit stands in its own word, and the others are 0. Assumes nothing.
use mathlib.Core.Path.{◌≡◌, sym, ap, ◌∙◌}
use mathlib.Core.Logic.{◌⊎◌, inl, inr}
use Prim.Native.Nat.{ℕ, ◌+◌, ◌*◌, ◌%◌, ◌^◌, ◌<◌, ◌≤◌}
use native.Mathlib.Nat.{one-mul, mod-eq_of_lt}
use native.Mathlib.Omega.{arith}
use lib.Dec.{eqb}
use lib.Pow.{pow-lt}
use borrow.Author.Tests.{ne_eqb}
use Rattle.bits.specs.Bits.{number}
use Rattle.bits.proofs.Bits.{number-only, number-none}
use Rattle.predicates.proofs.Words.{four_words, pack_cong}
use Rattle.predicates.proofs.Predicate.only.Goals as goal

-- the word that starts at bit `at`, where it holds bit b, and where it does not
here : (b at : ℕ) → at % 64 ≡ 0 → at ≤ b → b < at + 64 → (1 * 2 ^ (b % 64)) % 2 ^ 64 ≡ number (λ i. eqb i b) at 64
here b at e l h =
    let place : at + b % 64 ≡ b = omega arith in
    rw (one-mul, mod-eq_of_lt (pow-lt {i = b % 64} {j = 64} (omega arith))) (sym (number-only at 64 (b % 64) (omega arith)) ∙ ap (λ (x : ℕ). number (λ i. eqb i x) at 64) place)

elsewhere : (b at : ℕ) → (b < at) ⊎ (at + 64 ≤ b) → 0 ≡ number (λ i. eqb i b) at 64
elsewhere b at (inl h) = sym (number-none (λ i. eqb i b) at 64 (λ i l. ne_eqb (at + i) b (omega arith)))
elsewhere b at (inr h) = sym (number-none (λ i. eqb i b) at 64 (λ i l. ne_eqb (at + i) b (omega arith)))

pub returns-then-b-lt64 : goal.returns-then-b-lt64
returns-then-b-lt64 c =
    let b = c.args.b in
    four_words (λ i. eqb i b) _ _ _ _ (here b 0 (omega arith) (omega arith) (omega arith)) (elsewhere b 64 (inl (omega arith))) (elsewhere b 128 (inl (omega arith))) (elsewhere b 192 (inl (omega arith)))

pub returns-then-b-lt128 : goal.returns-then-b-lt128
returns-then-b-lt128 c =
    let b = c.args.b in
    four_words (λ i. eqb i b) _ _ _ _ (elsewhere b 0 (inr (omega arith))) (here b 64 (omega arith) (omega arith) (omega arith)) (elsewhere b 128 (inl (omega arith))) (elsewhere b 192 (inl (omega arith)))

pub returns-then-b-lt192 : goal.returns-then-b-lt192
returns-then-b-lt192 c =
    let b = c.args.b in
    four_words (λ i. eqb i b) _ _ _ _ (elsewhere b 0 (inr (omega arith))) (elsewhere b 64 (inr (omega arith))) (here b 128 (omega arith) (omega arith) (omega arith)) (elsewhere b 192 (inl (omega arith)))

pub returns-then-b-lt256 : goal.returns-then-b-lt256
returns-then-b-lt256 c =
    let b = c.args.b in
    four_words (λ i. eqb i b) _ _ _ _ (elsewhere b 0 (inr (omega arith))) (elsewhere b 64 (inr (omega arith))) (elsewhere b 128 (inr (omega arith))) (here b 192 (omega arith) (omega arith) (omega arith))

pub returns : goal.returns
returns c = c.none.ensures ∙ pack_cong _ _ (λ i l. sym (ne_eqb i c.args.b (omega arith)))
