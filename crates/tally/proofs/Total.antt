-- The sums of the planes are the four counts of the words, and of a predicate. Assumes nothing.
use mathlib.Core.Bool.{Bool, true, false}
use mathlib.Core.Path.{◌≡◌, refl, sym, ap, ap₂, ◌∙◌, subst}
use Prim.Native.Nat.{ℕ, ◌+◌, ◌*◌, ◌/◌, ◌%◌, ◌^◌, ◌≤◌, ◌<◌}
use native.Mathlib.Nat.{add-mul, mul_assoc, mul-lt-mul_of_pos_right, add-le-add, le_trans, le_of_eq}
use native.Mathlib.Omega.{arith}
use lib.Bits.{and_le_r}
use lib.Pow.{pow_pos}
use Rattle.bits.specs.Bits.{test_bit}
use Rattle.bits.specs.Search.{count}
use Rattle.bits.proofs.Searches.{count_add, count_cong}
use Rattle.predicates.specs.declared.Predicate.{Predicate}
use Rattle.predicates.specs.Predicate.{bit_at, active}
use Rattle.predicates.proofs.Words.{word, bit_in_word}
use Rattle.tally.specs.declared.Planes.{Planes}
use Rattle.tally.specs.Planes.{plane, lows, low_sum, planes_of, planes_in, sums_of}
use Rattle.tally.specs.Tally.{packed, true_of, tally, tally_of, tally_in}
use Rattle.tally.proofs.Sums.{rep, odds, four_odds, low_halves, plane_is, plane-low, plane_high, planes_low, planes_high}
use Rattle.tally.proofs.Sizes.{tally_is}

-- ---- bounds

pub lows-le : (x : ℕ) → lows 8 x ≤ 0x0f0f_0f0f_0f0f_0f0f
lows-le x = le_trans (le_of_eq (sym (low_halves x))) (and_le_r x 0x0f0f_0f0f_0f0f_0f0f)

pub low_sum-le : (x : ℕ) → low_sum 8 x ≤ 120
unfolding low_sum
low_sum-le x = eight _ _ _ _ _ _ _ _ (at _) (at _) (at _) (at _) (at _) (at _) (at _) (at _)
  where
    at : (y : ℕ) → y % 16 ≤ 15
    at y = omega arith

    eight : (a b c d e f g h : ℕ) → a ≤ 15 → b ≤ 15 → c ≤ 15 → d ≤ 15 → e ≤ 15 → f ≤ 15 → g ≤ 15 → h ≤ 15 → 0 + a + b + c + d + e + f + g + h ≤ 120
    eight a b c d e f g h ha hb hc hd he hf hg hh = omega arith

pub ruleset small_sums = (lows-le, low_sum-le)

-- ---- four words

packed_cong : {b h s d b' h' s' d' : ℕ} → b ≡ b' → h ≡ h' → s ≡ s' → d ≡ d' → packed b h s d ≡ packed b' h' s' d'
packed_cong p q r t = λ i. packed (p i) (q i) (r i) (t i)

packed-add : (b h s d b' h' s' d' : ℕ) → packed b h s d + packed b' h' s' d' ≡ packed (b + b') (h + h') (s + s') (d + d')
packed-add b h s d b' h' s' d' = omega arith

-- the eight counts of a word's bytes, by bit
record Eight : Type 0 where
  b0 : ℕ
  b4 : ℕ
  b2 : ℕ
  b6 : ℕ
  b1 : ℕ
  b5 : ℕ
  b3 : ℕ
  b7 : ℕ

abbrev eight : ℕ → Eight
eight w = record {
  b0 = odds 8 w;
  b4 = odds 8 (w / 16);
  b2 = odds 8 (w / 4);
  b6 = odds 8 (w / 4 / 16);
  b1 = odds 8 (w / 2);
  b5 = odds 8 (w / 2 / 16);
  b3 = odds 8 (w / 8);
  b7 = odds 8 (w / 8 / 16);
}

abbrev size_s : Eight → ℕ
size_s x = x.b0 + x.b4

abbrev size_h : Eight → ℕ
size_h x = size_s x + (x.b2 + x.b6)

abbrev size_b : Eight → ℕ
size_b x = size_h x + ((x.b1 + x.b5) + (x.b3 + x.b7))

abbrev pack8 : Eight → ℕ
pack8 x = packed (size_b x) (size_h x) (size_s x) x.b0

sum4 : (x y z w : Eight) → pack8 x + pack8 y + pack8 z + pack8 w
    ≡ packed (size_b x + size_b y + size_b z + size_b w) (size_h x + size_h y + size_h z + size_h w) (size_s x + size_s y + size_s z + size_s w) (x.b0 + y.b0 + z.b0 + w.b0)
sum4 x y z w =
    ap (λ (n : ℕ). n + pack8 z + pack8 w) (packed-add (size_b x) (size_h x) (size_s x) x.b0 (size_b y) (size_h y) (size_s y) y.b0)
    ∙ ap (λ (n : ℕ). n + pack8 w) (packed-add (size_b x + size_b y) (size_h x + size_h y) (size_s x + size_s y) (x.b0 + y.b0) (size_b z) (size_h z) (size_s z) z.b0)
    ∙ packed-add (size_b x + size_b y + size_b z) (size_h x + size_h y + size_h z) (size_s x + size_s y + size_s z) (x.b0 + y.b0 + z.b0) (size_b w) (size_h w) (size_s w) w.b0

-- sums by bit are sums by word
two_ways : (x y z w a b c d : ℕ) → (x + y + z + w) + (a + b + c + d) ≡ (x + a) + (y + b) + (z + c) + (w + d)
two_ways x y z w a b c d = omega arith

module _ (x y z w : Eight) where
  abbrev D : ℕ
  D = x.b0 + y.b0 + z.b0 + w.b0

  abbrev F : ℕ
  F = x.b4 + y.b4 + z.b4 + w.b4

  abbrev G : ℕ
  G = (x.b2 + y.b2 + z.b2 + w.b2) + (x.b6 + y.b6 + z.b6 + w.b6)

  abbrev O : ℕ
  O = ((x.b1 + y.b1 + z.b1 + w.b1) + (x.b3 + y.b3 + z.b3 + w.b3)) + ((x.b5 + y.b5 + z.b5 + w.b5) + (x.b7 + y.b7 + z.b7 + w.b7))

  is_s : D + F ≡ size_s x + size_s y + size_s z + size_s w
  is_s = two_ways x.b0 y.b0 z.b0 w.b0 x.b4 y.b4 z.b4 w.b4

  is_h : D + F + G ≡ size_h x + size_h y + size_h z + size_h w
  is_h =
      ap₂ (λ (m n : ℕ). m + n) is_s (two_ways x.b2 y.b2 z.b2 w.b2 x.b6 y.b6 z.b6 w.b6)
      ∙ two_ways (size_s x) (size_s y) (size_s z) (size_s w) (x.b2 + x.b6) (y.b2 + y.b6) (z.b2 + z.b6) (w.b2 + w.b6)

  is_o : O ≡ ((x.b1 + x.b5) + (x.b3 + x.b7)) + ((y.b1 + y.b5) + (y.b3 + y.b7)) + ((z.b1 + z.b5) + (z.b3 + z.b7)) + ((w.b1 + w.b5) + (w.b3 + w.b7))
  is_o =
      swap4 (x.b1 + y.b1 + z.b1 + w.b1) (x.b3 + y.b3 + z.b3 + w.b3) (x.b5 + y.b5 + z.b5 + w.b5) (x.b7 + y.b7 + z.b7 + w.b7)
      ∙ ap₂ (λ (m n : ℕ). m + n) (two_ways x.b1 y.b1 z.b1 w.b1 x.b5 y.b5 z.b5 w.b5) (two_ways x.b3 y.b3 z.b3 w.b3 x.b7 y.b7 z.b7 w.b7)
      ∙ two_ways (x.b1 + x.b5) (y.b1 + y.b5) (z.b1 + z.b5) (w.b1 + w.b5) (x.b3 + x.b7) (y.b3 + y.b7) (z.b3 + z.b7) (w.b3 + w.b7)
    where
      swap4 : (a b c d : ℕ) → (a + b) + (c + d) ≡ (a + c) + (b + d)
      swap4 a b c d = omega arith

  is_b : D + F + G + O ≡ size_b x + size_b y + size_b z + size_b w
  is_b =
      ap₂ (λ (m n : ℕ). m + n) is_h is_o
      ∙ two_ways (size_h x) (size_h y) (size_h z) (size_h w)
      ((x.b1 + x.b5) + (x.b3 + x.b7)) ((y.b1 + y.b5) + (y.b3 + y.b7)) ((z.b1 + z.b5) + (z.b3 + z.b7)) ((w.b1 + w.b5) + (w.b3 + w.b7))

  by_bit : packed (D + F + G + O) (D + F + G) (D + F) D ≡ pack8 x + pack8 y + pack8 z + pack8 w
  by_bit = packed_cong is_b is_h is_s refl ∙ sym (sum4 x y z w)

four_tallies : (a b c d t v y z p q r s : ℕ)
    → t ≡ plane 8 a b c d → v ≡ plane 8 (a / 4) (b / 4) (c / 4) (d / 4) → y ≡ plane 8 (a / 2) (b / 2) (c / 2) (d / 2) → z ≡ plane 8 (a / 8) (b / 8) (c / 8) (d / 8)
    → p ≡ low_sum 8 t → q ≡ low_sum 8 (t / 16) → r ≡ low_sum 8 v + low_sum 8 (v / 16) → s ≡ low_sum 8 (y + z) + low_sum 8 ((y + z) / 16)
    → packed (p + q + r + s) (p + q + r) (p + q) p ≡ tally (test_bit a) 8 + tally (test_bit b) 8 + tally (test_bit c) 8 + tally (test_bit d) 8
four_tallies a b c d t v y z p q r s ht hv hy hz hp hq hr hs =
    let ep : p ≡ four_odds 8 a b c d = hp ∙ ap (low_sum 8) ht ∙ plane-low 8 a b c d in
    let eq : q ≡ four_odds 8 (a / 16) (b / 16) (c / 16) (d / 16) = hq ∙ ap (λ (x : ℕ). low_sum 8 (x / 16)) ht ∙ plane_high 8 a b c d in
    let er : r ≡ four_odds 8 (a / 4) (b / 4) (c / 4) (d / 4) + four_odds 8 (a / 4 / 16) (b / 4 / 16) (c / 4 / 16) (d / 4 / 16) =
    hr ∙ ap (λ (x : ℕ). low_sum 8 x + low_sum 8 (x / 16)) hv ∙ ap₂ (λ (m n : ℕ). m + n) (plane-low 8 (a / 4) (b / 4) (c / 4) (d / 4)) (plane_high 8 (a / 4) (b / 4) (c / 4) (d / 4)) in
    let es : s ≡ (four_odds 8 (a / 2) (b / 2) (c / 2) (d / 2) + four_odds 8 (a / 8) (b / 8) (c / 8) (d / 8)) + (four_odds 8 (a / 2 / 16) (b / 2 / 16) (c / 2 / 16) (d / 2 / 16) + four_odds 8 (a / 8 / 16) (b / 8 / 16) (c / 8 / 16) (d / 8 / 16)) =
    hs ∙ ap₂ (λ (m n : ℕ). low_sum 8 (m + n) + low_sum 8 ((m + n) / 16)) hy hz
    ∙ ap₂ (λ (m n : ℕ). m + n) (planes_low 8 (a / 2) (b / 2) (c / 2) (d / 2) (a / 8) (b / 8) (c / 8) (d / 8)) (planes_high 8 (a / 2) (b / 2) (c / 2) (d / 2) (a / 8) (b / 8) (c / 8) (d / 8)) in
    (λ i. packed (ep i + eq i + er i + es i) (ep i + eq i + er i) (ep i + eq i) (ep i))
    ∙ by_bit (eight a) (eight b) (eight c) (eight d)
    ∙ sym (ap₂ (λ (m n : ℕ). m + n) (ap₂ (λ (m n : ℕ). m + n) (ap₂ (λ (m n : ℕ). m + n) (tally_is 8 a) (tally_is 8 b)) (tally_is 8 c)) (tally_is 8 d))

-- ---- a predicate

-- word q: n elements
pub part : (k n : ℕ) (p : Predicate) (q at : ℕ) → n * 2 ^ k ≡ 64 → at ≡ q * n → count (λ e. active k p (at + e)) n ≡ true_of k (test_bit (word p q)) n
unfolding true_of active
part k n p q at h s =
    count_cong _ _ n (λ e l.
    ap (bit_at p) (add-mul at e (2 ^ k) ∙ ap (λ (x : ℕ). x + e * 2 ^ k) (ap (λ (x : ℕ). x * 2 ^ k) s ∙ mul_assoc q n (2 ^ k) ∙ ap (λ (x : ℕ). q * x) h))
    ∙ bit_in_word p q (e * 2 ^ k) (subst (λ (x : ℕ). e * 2 ^ k < x) h (mul-lt-mul_of_pos_right l (pow_pos k))))

by_words : (k n : ℕ) (p : Predicate) → n * 2 ^ k ≡ 64
    → count (active k p) (0 + n + n + n + n) ≡ true_of k (test_bit (word p 0)) n + true_of k (test_bit (word p 1)) n + true_of k (test_bit (word p 2)) n + true_of k (test_bit (word p 3)) n
unfolding count
by_words k n p h =
    count_add (active k p) (0 + n + n + n) n
    ∙ ap₂ (λ (x y : ℕ). x + y) (count_add (active k p) (0 + n + n) n
    ∙ ap₂ (λ (x y : ℕ). x + y) (count_add (active k p) (0 + n) n
    ∙ ap₂ (λ (x y : ℕ). x + y) (count_add (active k p) 0 n ∙ none _ ∙ part k n p 0 0 h (omega arith)) (part k n p 1 (0 + n) h (omega arith)))
    (part k n p 2 (0 + n + n) h (omega arith)))
    (part k n p 3 (0 + n + n + n) h (omega arith))
  where
    none : (x : ℕ) → 0 + x ≡ x
    none x = omega arith

predicate_tally : (p : Predicate)
    → tally (test_bit (word p 0)) 8 + tally (test_bit (word p 1)) 8 + tally (test_bit (word p 2)) 8 + tally (test_bit (word p 3)) 8 ≡ tally_of p
unfolding tally tally_of
predicate_tally p =
    four _ _ _ _ _ _ _ _ _ _ _ _ _ _ _ _
    ∙ sym (packed_cong (by_words 0 64 p refl) (by_words 1 32 p refl) (by_words 2 16 p refl) (by_words 3 8 p refl))
  where
    four : (b h s d b' h' s' d' e i t f e' i' t' f' : ℕ) → packed b h s d + packed b' h' s' d' + packed e i t f + packed e' i' t' f'
        ≡ packed (b + b' + e + e') (h + h' + i + i') (s + s' + t + t') (d + d' + f + f')
    four b h s d b' h' s' d' e i t f e' i' t' f' =
        ap (λ (n : ℕ). n + packed e i t f + packed e' i' t' f') (packed-add b h s d b' h' s' d')
        ∙ ap (λ (n : ℕ). n + packed e' i' t' f') (packed-add (b + b') (h + h') (s + s') (d + d') e i t f)
        ∙ packed-add (b + b' + e) (h + h' + i) (s + s' + t) (d + d' + f) e' i' t' f'

-- ---- as the code adds them

zero-tally : tally (test_bit 0) 8 ≡ 0
unfolding tally true_of count test_bit
zero-tally = refl

low-tally : (p : Predicate) → tally (test_bit (word p 0)) 8 + tally (test_bit 0) 8 + tally (test_bit 0) 8 + tally (test_bit 0) 8 ≡ tally_in true p
low-tally p = nothing _ _ zero-tally
  where
    nothing : (x z : ℕ) → z ≡ 0 → x + z + z + z ≡ x
    nothing x z e = omega arith

sums_words : (a b c d : ℕ) → sums_of (planes_of a b c d) ≡ tally (test_bit a) 8 + tally (test_bit b) 8 + tally (test_bit c) 8 + tally (test_bit d) 8
sums_words a b c d = four_tallies a b c d _ _ _ _ _ _ _ _ refl refl refl refl refl refl refl refl

sums_are : (low : Bool) (p : Predicate) → sums_of (planes_in low p) ≡ tally_in low p
sums_are true p = sums_words (word p 0) 0 0 0 ∙ low-tally p
sums_are false p = sums_words (word p 0) (word p 1) (word p 2) (word p 3) ∙ predicate_tally p

pub tally_in_lem : (low : Bool) (p : Predicate) (x : Planes) (t : ℕ) → x ≡ planes_in low p → t ≡ sums_of x → t ≡ tally_in low p
tally_in_lem low p x t hx ht = ht ∙ ap sums_of hx ∙ sums_are low p
