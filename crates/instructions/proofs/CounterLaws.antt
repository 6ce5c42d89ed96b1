-- Laws of counters: stored and read. Assumes nothing.
use Rattle.std.proofs.Common.{◌≡◌, ℕ, suc, ◌+◌, ◌-◌, ◌*◌, ◌/◌, ◌%◌, ◌^◌, ◌<◌, ◌≤◌, min, max, Bool, true, false, not, ◌&&◌, eqb, ltb, sym, refl, ap, ◌∙◌, ap₂, lt_of_lt_of_le, mul-le-mul_right, mod-lt, mod-eq_of_lt, mul_assoc, one-mul, div-mul-le_self, add-one, arith, pow_pos, pow_mono, shl_exact, lt-ltb, eq-eqb, ne_eqb}
use native.Mathlib.Decide.{dec_lt}
use native.Mathlib.Nat.{div-eq_of_lt, max-eq_left, max-eq_right}
use lib.Pow.{field}
use borrow.Author.Tests.{eqb-false}
use Rattle.bits.specs.Bits.{test_bit, number, element_bit}
use Rattle.bits.specs.Choice.{pick}
use Rattle.bits.specs.Search.{count, first_from, after_last}
use Rattle.bits.specs.declared.Size.{Size}
use Rattle.bits.specs.Size.{shift}
use Rattle.bits.proofs.Bits.{number_cong, number_lt, number-test_bit}
use Rattle.bits.proofs.Counts.{last_within}
use Rattle.bits.proofs.Searches.{count_cong, count_none, count-below, count-not-below, count_mono, first_below, first_beyond, first_cong}
use Rattle.bits.proofs.Sizes.{shift-lt}
use Rattle.predicates.specs.declared.Predicate.{Predicate}
use Rattle.predicates.specs.Predicate.{bit_at, spread, predicate_length}
use Rattle.predicates.proofs.ElementBits.{scaled, count-at_bits, both_start}
use Rattle.predicates.proofs.Words.{word, bit_in_word}
use Rattle.instructions.specs.Counter.{group_of, stored, counter_of, mark_of, count_end, count_above, counter_element, expanded}

-- ---- stored

-- a counter is 0, or a number below g stored, inverted or not
pub counter_cases : (P : ℕ → Type 0) (up : Bool) (g n k : ℕ) → n ≤ g → P 0 → ((inverted : Bool) (m : ℕ) → m < g → P (stored inverted m k)) → P (counter_of up g n k)
unfolding counter_of
counter_cases P up g n k h none some = go (eqb n 0) refl up (eqb n g) refl
  where
    go : (z : Bool) → eqb n 0 ≡ z → (u t : Bool) → eqb n g ≡ t → P (pick z 0 (pick u (pick t (stored true 0 k) (stored false n k)) (stored true (g - n) k)))
    go true ez u t et = none
    go false ez true true et = some true 0 (omega (arith, eqb-false n 0 ez))
    go false ez true false et = some false n (omega (arith, eqb-false n g et))
    go false ez false t et = some true (g - n) (omega (arith, eqb-false n 0 ez))

-- ---- read

-- the low word's bits
low_bit : (p : Predicate) (i : ℕ) → i < 64 → bit_at p i ≡ test_bit (word p 0) i
low_bit p i h = ap (bit_at p) (omega arith) ∙ bit_in_word p 0 i h

mark_in : (p : Predicate) → mark_of p ≡ first_from (test_bit (word p 0)) 0 4
mark_in p = first_cong _ _ 0 4 (omega arith) (λ e a b. low_bit p e (omega arith))

-- the bits of a number from `at` on and below `to`
bits_between : (w at to : ℕ) → w % 2 ^ to / 2 ^ at ≡ number (test_bit w) at (to - at)
unfolding number
bits_between w at to =
    elim (dec_lt to at) [
      | yes l ↦
          let none : to - at ≡ 0 = omega arith in
          rw none (div-eq_of_lt (lt_of_lt_of_le (mod-lt w (pow_pos to)) (pow_mono {i = to} {j = at} (omega arith))))
      | no l ↦
          let sum : to ≡ to - at + at = omega arith in
          ap (λ (x : ℕ). w % 2 ^ x / 2 ^ at) sum ∙ field w (to - at) at ∙ sym (number-test_bit w at (to - at))
    ]

pub length-le : (vl : ℕ) → predicate_length vl ≤ 256
unfolding predicate_length
length-le vl = omega arith

-- how many bits 4 PL has: the count's last bit, and one more
abbrev length_of : ℕ → ℕ
length_of vl = after_last (test_bit (4 * predicate_length vl)) 64

end_le : (vl : ℕ) → length_of vl ≤ 11
end_le vl = last_within (4 * predicate_length vl) 11 64 (omega (arith, length-le vl))

pub count_end_le : (vl : ℕ) → count_end vl ≤ 10
unfolding count_end
count_end_le vl = omega (arith, end_le vl)

-- the count, in the low word
count_in : (p : Predicate) (vl m : ℕ) → word p 0 % 2 ^ length_of vl / 2 ^ suc m ≡ count_above vl m p
unfolding count_end
count_in p vl m =
    let width : length_of vl - suc m ≡ length_of vl - 1 - m = omega arith in
    bits_between (word p 0) (suc m) (length_of vl) ∙ ap (number (test_bit (word p 0)) (suc m)) width
    ∙ number_cong _ _ (suc m) (suc m) (length_of vl - 1 - m) (λ i l. sym (low_bit p (suc m + i) (omega (arith, end_le vl))))

count-lt : (p : Predicate) (vl m : ℕ) → count_above vl m p < 2 ^ 10
unfolding count_end
count-lt p vl m = lt_of_lt_of_le (number_lt (bit_at p) (suc m) (length_of vl - 1 - m)) (pow_mono {i = length_of vl - 1 - m} {j = 10} (omega (arith, end_le vl)))

-- a few times PL has few bits
pub length_small : (x pl vl l : ℕ) → l ≡ after_last (test_bit (x * pl)) 64 → pl ≡ predicate_length vl → x ≤ 16 → l ≤ 13
length_small x pl vl l h e few = omega (arith, last_within (x * pl) 13 64 (omega (arith, mul-le-mul_right pl few, length-le vl)))

pub one_moved : (n : ℕ) → n ≤ 13 → (1 * 2 ^ n) % 2 ^ 64 ≡ 2 ^ n
one_moved n h = shl_exact 1 n 64 (omega arith) (omega arith) ∙ one-mul (2 ^ n)

pub above_is : (p : Predicate) (vl m pl l : ℕ) → pl ≡ predicate_length vl → l ≡ after_last (test_bit (4 * pl)) 64
    → word p 0 % ((1 * 2 ^ l) % 2 ^ 64) / 2 ^ (m + 1) ≡ count_above vl m p
above_is p vl m pl l e h =
    ap (λ (x : ℕ). word p 0 % x / 2 ^ (m + 1)) (one_moved l (length_small 4 pl vl l h e (omega arith)))
    ∙ ap₂ (λ (x y : ℕ). word p 0 % 2 ^ x / 2 ^ y) (h ∙ ap (λ (x : ℕ). after_last (test_bit (4 * x)) 64) e) (add-one m) ∙ count_in p vl m

mark_end_le : (vl m : ℕ) → 4 * (predicate_length vl / 2 ^ m) * 2 ^ m ≤ 1024
mark_end_le vl m = omega (arith, mul_assoc 4 (predicate_length vl / 2 ^ m) (2 ^ m), div-mul-le_self (predicate_length vl) (2 ^ m), length-le vl)

pub mark_end_is : (vl m pl : ℕ) → m < 4 → pl ≡ predicate_length vl → (4 * (pl / 2 ^ m) * 2 ^ m) % 2 ^ 64 ≡ 4 * (predicate_length vl / 2 ^ m) * 2 ^ m
mark_end_is vl m pl small e = ap (λ (x : ℕ). (4 * (x / 2 ^ m) * 2 ^ m) % 2 ^ 64) e ∙ mod-eq_of_lt (omega (arith, mark_end_le vl m))

-- ---- counted: elements of the mark's size 2 ^ m at those of the instruction's size 2 ^ k

pub none-counted : (p : Predicate) (vl k g m : ℕ) → m ≡ first_from (test_bit (word p 0)) 0 64 → 4 ≤ m → 0 ≡ count (λ e. expanded vl p (e * 2 ^ k)) g
unfolding expanded
none-counted p vl k g m e h =
    let four : mark_of p ≡ 4 = mark_in p ∙ first_beyond (test_bit (word p 0)) 4 64 (omega arith) in
    sym (count_none _ g (λ i l. ap (λ (j : ℕ). ltb j 4 && spread j (counter_element vl j (bit_at p 15) (count_above vl j p)) (i * 2 ^ k)) four))

-- a bit at which a counter's element starts: it is among the bits of the 4 E elements, and below those of the count n or not
starts_at : (m e n b : ℕ) (inverted : Bool)
    → spread m (λ i. ltb i e && pick inverted (not (ltb i n)) (ltb i n)) b
    ≡ (element_bit m b && (ltb b (e * 2 ^ m) && pick inverted (not (ltb b (n * 2 ^ m))) (ltb b (n * 2 ^ m))))
unfolding spread
starts_at m e n b inverted = rw (scaled m e b, scaled m n b)

-- of the bits below `at` where elements of both sizes start, those below `to` and, by inversion, below `n` or not
both_counted : (k m at to n : ℕ) (inverted : Bool)
    → count (λ b. element_bit k b && (element_bit m b && (ltb b to && pick inverted (not (ltb b n)) (ltb b n)))) at
    ≡ count (λ b. (element_bit (max k m) b && ltb b to) && pick inverted (not (ltb b n)) (ltb b n)) at
both_counted k m at to n inverted =
    count_cong _ _ at (λ b l. regroup (element_bit k b) (element_bit m b) (ltb b to) (pick inverted (not (ltb b n)) (ltb b n)) ∙ ap (λ (t : Bool). (t && ltb b to) && pick inverted (not (ltb b n)) (ltb b n)) (both_start k m b))
  where
    regroup : (a b c d : Bool) → (a && (b && (c && d))) ≡ (((a && b) && c) && d)
    regroup true true true d = refl
    regroup true true false d = refl
    regroup true false c d = refl
    regroup false b c d = refl

module _ (p : Predicate) (vl k g m : ℕ) (mark : m ≡ first_from (test_bit (word p 0)) 0 64) (small : m < 4) where
  abbrev end : ℕ
  end = 4 * (predicate_length vl / 2 ^ m) * 2 ^ m

  abbrev held : ℕ
  held = count_above vl m p * 2 ^ m

  at_mark : (b : ℕ) → expanded vl p b ≡ spread m (counter_element vl m (bit_at p 15) (count_above vl m p)) b
  unfolding expanded
  at_mark b =
      let same : mark_of p ≡ m = mark_in p ∙ first_below (test_bit (word p 0)) 4 64 (omega arith) (omega arith) ∙ sym mark in
      ap (λ (j : ℕ). ltb j 4 && spread j (counter_element vl j (bit_at p 15) (count_above vl j p)) b) same
      ∙ ap (λ (t : Bool). t && spread m (counter_element vl m (bit_at p 15) (count_above vl m p)) b) (lt-ltb m 4 small)

  -- counted by the bits at which elements of both sizes start
  by_bits : (inverted : Bool) → test_bit (word p 0) 15 ≡ inverted
      → count (λ e. expanded vl p (e * 2 ^ k)) g ≡ count (λ b. (element_bit (max k m) b && ltb b end) && pick inverted (not (ltb b held)) (ltb b held)) (g * 2 ^ k)
  by_bits inverted i =
      count-at_bits k (expanded vl p) g
      ∙ count_cong _ _ (g * 2 ^ k) (λ b l. ap (λ (t : Bool). element_bit k b && t) (at_mark b
      ∙ ap (λ (t : Bool). spread m (counter_element vl m t (count_above vl m p)) b) (low_bit p 15 (omega arith) ∙ i)
      ∙ starts_at m (4 * (predicate_length vl / 2 ^ m)) (count_above vl m p) b inverted))
      ∙ both_counted k m (g * 2 ^ k) end held inverted

  -- the two bounds, in either order
  bounds : (a b c : ℕ) → min (min a c) b ≡ min (min a b) c
  bounds a b c = omega arith

  below_both : count (λ b. element_bit (max k m) b && ltb b end) (min (g * 2 ^ k) held) ≡ count (element_bit (max k m)) (min (min (g * 2 ^ k) end) held)
  below_both = count-below (element_bit (max k m)) end (min (g * 2 ^ k) held) ∙ ap (count (element_bit (max k m))) (bounds (g * 2 ^ k) end held)

  pub plain-counted : test_bit (word p 0) 15 ≡ false
      → count (element_bit (max k m)) (min (min (g * 2 ^ k) end) held) ≡ count (λ e. expanded vl p (e * 2 ^ k)) g
  plain-counted i = sym (by_bits false i ∙ count-below (λ b. element_bit (max k m) b && ltb b end) held (g * 2 ^ k) ∙ below_both)

  pub inverted_counted : test_bit (word p 0) 15 ≡ true
      → count (element_bit (max k m)) (min (g * 2 ^ k) end) - count (element_bit (max k m)) (min (min (g * 2 ^ k) end) held) ≡ count (λ e. expanded vl p (e * 2 ^ k)) g
  inverted_counted i =
      sym (by_bits true i
      ∙ count-not-below (λ b. element_bit (max k m) b && ltb b end) held (g * 2 ^ k)
      ∙ ap₂ (λ (x y : ℕ). x - y) (count-below (element_bit (max k m)) end (g * 2 ^ k)) below_both)

-- ---- what `count_expanded` answers, from what its callees do

module _ (p : Predicate) (size : Size) (vl g m : ℕ) where
  abbrev answer : ℕ
  answer = count (λ e. expanded vl p (e * 2 ^ shift size)) g

  -- the bits at which elements of both sizes end, and those below the count
  ends_at : (k f e : ℕ) → g ≤ 1024 → e ≡ min ((g * 2 ^ k) % 2 ^ 64) f → f ≡ 4 * (predicate_length vl / 2 ^ m) * 2 ^ m → k ≡ shift size
      → e ≡ min (g * 2 ^ shift size) (4 * (predicate_length vl / 2 ^ m) * 2 ^ m)
  ends_at k f e small he hf hk =
      he ∙ ap₂ (λ (x y : ℕ). min ((g * 2 ^ x) % 2 ^ 64) y) hk hf
      ∙ ap (λ (x : ℕ). min x (4 * (predicate_length vl / 2 ^ m) * 2 ^ m)) (shl_exact 11 (shift size) 64 (omega arith) (omega (arith, shift-lt size)))

  held_at : (c e h : ℕ) → m < 4 → h ≡ min e ((c * 2 ^ m) % 2 ^ 64) → c ≡ count_above vl m p → h ≡ min e (count_above vl m p * 2 ^ m)
  held_at c e h small hh hc = hh ∙ ap (λ (x : ℕ). min e ((x * 2 ^ m) % 2 ^ 64)) hc ∙ ap (min e) (shl_exact 10 m 64 (count-lt p vl m) (omega arith))

  pub none_is : m ≡ first_from (test_bit (word p 0)) 0 64 → 4 ≤ m → 0 ≡ answer
  none_is = none-counted p vl (shift size) g m

  pub plain_is : (k s f e c h n : ℕ) → n ≡ count (element_bit s) h → s ≡ max k m → h ≡ min e ((c * 2 ^ m) % 2 ^ 64) → c ≡ count_above vl m p
      → e ≡ min ((g * 2 ^ k) % 2 ^ 64) f → f ≡ 4 * (predicate_length vl / 2 ^ m) * 2 ^ m → k ≡ shift size
      → m ≡ first_from (test_bit (word p 0)) 0 64 → m < 4 → g ≤ 1024 → (word p 0 / 2 ^ 15 % 2 ≡ 1 → ⊥) → n ≡ answer
  unfolding test_bit
  plain_is k s f e c h n hn hs hh hc he hf hk mark small g_le off =
      hn ∙ ap₂ (λ (x y : ℕ). count (element_bit x) y) (hs ∙ ap (λ (x : ℕ). max x m) hk)
      (held_at c e h small hh hc ∙ ap (λ (x : ℕ). min x (count_above vl m p * 2 ^ m)) (ends_at k f e g_le he hf hk))
      ∙ plain-counted p vl (shift size) g m mark small (ne_eqb (word p 0 / 2 ^ 15 % 2) 1 off)

  pub inverted_is : (k s f e c h n a : ℕ) → n ≡ count (element_bit s) h → a ≡ count (element_bit s) e → s ≡ max k m → h ≡ min e ((c * 2 ^ m) % 2 ^ 64) → c ≡ count_above vl m p
      → e ≡ min ((g * 2 ^ k) % 2 ^ 64) f → f ≡ 4 * (predicate_length vl / 2 ^ m) * 2 ^ m → k ≡ shift size
      → m ≡ first_from (test_bit (word p 0)) 0 64 → m < 4 → g ≤ 1024 → word p 0 / 2 ^ 15 % 2 ≡ 1 → a - n ≡ answer
  unfolding test_bit
  inverted_is k s f e c h n a hn ha hs hh hc he hf hk mark small g_le on =
      let step : s ≡ max (shift size) m = hs ∙ ap (λ (x : ℕ). max x m) hk in
      let end = ends_at k f e g_le he hf hk in
      ap₂ (λ (x y : ℕ). x - y)
      (ha ∙ ap₂ (λ (x y : ℕ). count (element_bit x) y) step end)
      (hn ∙ ap₂ (λ (x y : ℕ). count (element_bit x) y) step (held_at c e h small hh hc ∙ ap (λ (x : ℕ). min x (count_above vl m p * 2 ^ m)) end))
      ∙ inverted_counted p vl (shift size) g m mark small (eq-eqb (word p 0 / 2 ^ 15 % 2) 1 on)

-- what `starts_below` asks, and that the difference is none below 0
pub end_fits : (vl m f x e : ℕ) → e ≡ min x f → f ≡ 4 * (predicate_length vl / 2 ^ m) * 2 ^ m → e ≤ 1024
end_fits vl m f x e he hf = omega (arith, mark_end_le vl m)

pub held_fits : (vl m f x e y h : ℕ) → h ≡ min e y → e ≡ min x f → f ≡ 4 * (predicate_length vl / 2 ^ m) * 2 ^ m → h ≤ 1024
held_fits vl m f x e y h hh he hf = omega (arith, end_fits vl m f x e he hf)

pub larger_lt : (k m s : ℕ) → s ≡ max k m → k < 4 → m < 4 → s < 4
larger_lt k m s e hk hm =
    elim (dec_lt k m) [
      | yes l ↦ omega (arith, max-eq_right {n = k} {m = m} (omega arith))
      | no l ↦ omega (arith, max-eq_left {n = k} {m = m} (omega arith))
    ]

pub fewer : (s e x h n a : ℕ) → n ≡ count (element_bit s) h → a ≡ count (element_bit s) e → h ≡ min e x → n ≤ a
fewer s e x h n a hn ha hh = omega (arith, count_mono (element_bit s) h e (omega arith))

pub group_most : (four : Bool) (n : ℕ) → group_of four n ≤ 4 * n
group_most true n = omega arith
group_most false n = omega arith

pub group-le : (four : Bool) (n : ℕ) → n ≤ 256 → group_of four n ≤ 1024
group-le four n h = omega (arith, group_most four n)
