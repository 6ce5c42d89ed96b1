-- A predicate's words and its bits. Assumes nothing.
use mathlib.Core.Bool.{Bool, true, false}
use mathlib.Core.List.{List, [], ◌∷◌}
use mathlib.Core.Path.{◌≡◌, refl, sym, ap, ap₂, ◌∙◌}
use Prim.Native.Nat.{ℕ, zero, suc, ◌+◌, ◌*◌, ◌/◌, ◌%◌, ◌^◌, ◌≤◌, ◌<◌}
use native.Mathlib.Decide.{dec_lt}
use native.Mathlib.Omega.{arith}
use lib.Arith.{digits_div, digits_mod}
use lib.ListN.{get_or, length, get_or-eq_default}
use mir.Syntax.{w64}
use mir.Val.{Fits}
use Rattle.bits.specs.Bits.{test_bit, number}
use Rattle.bits.proofs.Searches.{never}
use Rattle.bits.proofs.Bits.{test_bit-number, test_bit-zero, number_cong, number_lt, number-whole}
use Rattle.predicates.specs.declared.Predicate.{Predicate}
use Rattle.predicates.specs.Predicate.{bit_at, pack}
use Rattle.predicates.specs.Words.{Words}

pub words_of : (p : Predicate) → length p.words ≡ 4 → ((i : ℕ) → Fits w64 (get_or p.words i 0)) → Words p
words_of p l f = record { four = l; fit = λ i. (f i).fits }

abbrev pub word : Predicate → ℕ → ℕ
word p q = get_or p.words q 0

-- bit i of word q
pub bit_in_word : (p : Predicate) (q i : ℕ) → i < 64 → bit_at p (q * 64 + i) ≡ test_bit (word p q) i
unfolding bit_at
bit_in_word p q i h = ap₂ (λ (x y : ℕ). test_bit (get_or p.words x 0) y) (digits_div q h) (digits_mod q h)

-- a word that is 0 has no bit set
pub bit-of-none : (p : Predicate) (b : ℕ) → word p (b / 64) ≡ 0 → bit_at p b ≡ false
unfolding bit_at
bit-of-none p b e = ap (λ (w : ℕ). test_bit w (b % 64)) e ∙ test_bit-zero (b % 64)

pub bit_past : (p : Predicate) → Words p → (b : ℕ) → 256 ≤ b → bit_at p b ≡ false
bit_past p ok b h = bit-of-none p b (get_or-eq_default p.words 0 (omega (arith, ok.four)))

-- ---- packing

pack-word : (f : ℕ → Bool) (q i : ℕ) → q < 4 → i < 64 → test_bit (word (pack f) q) i ≡ f (q * 64 + i)
unfolding pack
pack-word f zero i h l = test_bit-number f 0 64 i l
pack-word f (suc zero) i h l = test_bit-number f 64 64 i l
pack-word f (suc (suc zero)) i h l = test_bit-number f 128 64 i l
pack-word f (suc (suc (suc zero))) i h l = test_bit-number f 192 64 i l
pack-word f (suc (suc (suc (suc q)))) i h l = absurd (omega arith)

pub bit_below : (p : Predicate) → Words p → (b : ℕ) → bit_at p b ≡ true → b < 256
bit_below p w b h = elim (dec_lt b 256) [
  | yes l ↦ l
  | no l ↦ never h (bit_past p w b (omega arith))
]

-- a packed predicate's bits are the bits that were packed
pub pack-bit : (f : ℕ → Bool) (b : ℕ) → b < 256 → bit_at (pack f) b ≡ f b
unfolding bit_at
pack-bit f b h = pack-word f (b / 64) (b % 64) (omega arith) (omega arith) ∙ ap f (omega arith)

-- equal bits make equal predicates
pub pack_cong : (f g : ℕ → Bool) → ((b : ℕ) → b < 256 → f b ≡ g b) → pack f ≡ pack g
unfolding pack
pack_cong f g h =
    let w : (at : ℕ) → at ≤ 192 → number f at 64 ≡ number g at 64 = λ at l. number_cong f g at at 64 (λ i k. h (at + i) (omega arith)) in
    rw (w 0 (omega arith), w 64 (omega arith), w 128 (omega arith), w 192 (omega arith))

pub pack_words : (f : ℕ → Bool) → Words (pack f)
unfolding pack
pack_words f = record { four = refl; fit = fits }
  where
    fits : (i : ℕ) → get_or (number f 0 64 ∷ number f 64 64 ∷ number f 128 64 ∷ number f 192 64 ∷ []) i 0 < 2 ^ 64
    fits zero = number_lt f 0 64
    fits (suc zero) = number_lt f 64 64
    fits (suc (suc zero)) = number_lt f 128 64
    fits (suc (suc (suc zero))) = number_lt f 192 64
    fits (suc (suc (suc (suc i)))) = omega arith

pub word_bits : (p : Predicate) → Words p → (q : ℕ) → number (bit_at p) (q * 64) 64 ≡ word p q
word_bits p ok q =
    number_cong (bit_at p) (test_bit (word p q)) (q * 64) 0 64 (λ i l. bit_in_word p q i l ∙ ap (test_bit (word p q)) (omega arith))
    ∙ number-whole (word p q) 64 (ok.fit q)

four_of : (ws : List ℕ) → length ws ≡ 4 → (get_or ws 0 0 ∷ get_or ws 1 0 ∷ get_or ws 2 0 ∷ get_or ws 3 0 ∷ []) ≡ ws
four_of [] h = absurd (omega arith)
four_of (a ∷ []) h = absurd (omega arith)
four_of (a ∷ b ∷ []) h = absurd (omega arith)
four_of (a ∷ b ∷ c ∷ []) h = absurd (omega arith)
four_of (a ∷ b ∷ c ∷ d ∷ []) h = refl
four_of (a ∷ b ∷ c ∷ d ∷ e ∷ ws) h = absurd (omega arith)

-- a predicate from its four words
pub four_words : (f : ℕ → Bool) (a b c d : ℕ) → a ≡ number f 0 64 → b ≡ number f 64 64 → c ≡ number f 128 64 → d ≡ number f 192 64
    → ◌≡◌ {A = Predicate} (record { words = a ∷ b ∷ c ∷ d ∷ [] }) (pack f)
unfolding pack
four_words f a b c d ha hb hc hd = rw (ha, hb, hc, hd)

same_words : (a b c d u v w x : ℕ) → a ≡ u → b ≡ v → c ≡ w → d ≡ x
    → ◌≡◌ {A = Predicate} (record { words = a ∷ b ∷ c ∷ d ∷ [] }) (record { words = u ∷ v ∷ w ∷ x ∷ [] })
same_words a b c d u v w x ha hb hc hd = rw (ha, hb, hc, hd)

-- a predicate is its bits, packed
pub pack_bits : (p : Predicate) → Words p → pack (bit_at p) ≡ p
pack_bits p ok =
    let w : (q : ℕ) → word p q ≡ number (bit_at p) (q * 64) 64 = λ q. sym (word_bits p ok q) in
    sym (four_words (bit_at p) (word p 0) (word p 1) (word p 2) (word p 3) (w 0) (w 1) (w 2) (w 3))
    ∙ ap (λ (ws : List ℕ). record { words = ws }) (four_of p.words ok.four)

-- predicates with equal bits are equal
pub same_bits : (p q : Predicate) → Words p → Words q → ((b : ℕ) → b < 256 → bit_at p b ≡ bit_at q b) → p ≡ q
same_bits p q hp hq h = sym (pack_bits p hp) ∙ pack_cong (bit_at p) (bit_at q) h ∙ pack_bits q hq

-- a predicate whose words are those of f
pub from_words : (f : ℕ → Bool) (r : Predicate) → Words r → ((i : ℕ) → i < 4 → word r i ≡ number f (i * 64) 64) → r ≡ pack f
from_words f r ok h =
    sym (ap (λ (ws : List ℕ). record { words = ws }) (four_of r.words ok.four))
    ∙ four_words f _ _ _ _ (h 0 (omega arith)) (h 1 (omega arith)) (h 2 (omega arith)) (h 3 (omega arith))

-- ---- an operation on two predicates' words is the operation on their bits

module _ (op : Bool → Bool → Bool) (on_words : ℕ → ℕ → ℕ)
    (law : (f g : ℕ → Bool) (at : ℕ) → number (λ i. op (f i) (g i)) at 64 ≡ on_words (number f at 64) (number g at 64))
    (p q : Predicate) (hp : Words p) (hq : Words q) where
  op-word : (k : ℕ) → on_words (word p k) (word q k) ≡ number (λ b. op (bit_at p b) (bit_at q b)) (k * 64) 64
  op-word k = sym (law (bit_at p) (bit_at q) (k * 64) ∙ ap₂ on_words (word_bits p hp k) (word_bits q hq k))

  pub pack-op : ◌≡◌ {A = Predicate} (record { words = on_words (word p 0) (word q 0) ∷ on_words (word p 1) (word q 1) ∷ on_words (word p 2) (word q 2) ∷ on_words (word p 3) (word q 3) ∷ [] })
      (pack (λ b. op (bit_at p b) (bit_at q b)))
  pack-op = four_words (λ b. op (bit_at p b) (bit_at q b)) _ _ _ _ (op-word 0) (op-word 1) (op-word 2) (op-word 3)

  -- the same of a predicate that has these words
  pub op_packed : (r : Predicate) → Words r → ((i : ℕ) → i < 4 → word r i ≡ on_words (word p i) (word q i)) → r ≡ pack (λ b. op (bit_at p b) (bit_at q b))
  op_packed r hr h =
      sym (ap (λ (ws : List ℕ). record { words = ws }) (four_of r.words hr.four))
      ∙ same_words _ _ _ _ _ _ _ _ (h 0 (omega arith)) (h 1 (omega arith)) (h 2 (omega arith)) (h 3 (omega arith))
      ∙ pack-op
