-- Searches over a vector's elements, from searches over the bits of a predicate under the live elements. The facts are over elements of 2 ^ k bits
-- and any number n of them that fits 256 bits. Assumes nothing.
use mathlib.Core.Bool.{Bool, true, false, not, ◌&&◌, and-false}
use mathlib.Core.Path.{◌≡◌, refl, sym, ap, ◌∙◌}
use Prim.Native.Nat.{ℕ, zero, suc, ◌+◌, ◌-◌, ◌*◌, ◌/◌, ◌^◌, ◌≤◌, ◌<◌, zero-le, min}
use native.Mathlib.Decide.{dec_lt, ℕ_discrete}
use native.Mathlib.Nat.{suc-mul, div-eq_of_lt, div-mul-le_self, div-le_self, div-lt_iff_lt-mul, le-div_iff_mul-le, le_trans, min-le_right, mul-le-mul_right}
use native.Mathlib.Omega.{arith}
use lib.Dec.{ltb, eqb}
use lib.Pow.{pow_pos, ones_lt, shl-shr}
use borrow.Author.Tests.{lt-ltb, le-ltb, eq-eqb, ne_eqb}
use Rattle.bits.specs.declared.Size.{Size}
use Rattle.bits.specs.Bits.{element_bit}
use Rattle.bits.specs.Search.{count, some, first_from, after_last}
use Rattle.bits.specs.Size.{shift}
use Rattle.bits.proofs.Searches.{never, count_cong, count_end_lem, some_yes, some_no, some-none, some_found, first_found, first_is, first_cong, last_found, last_is, last_cong, last_le}
use Rattle.predicates.specs.declared.Predicate.{Predicate}
use Rattle.predicates.specs.PredTest.{at_lowest, at_highest, pred_test}
use Rattle.predicates.specs.Predicate.{bit_at, pack, active, touched, spread, between, span_of, predicate_length, elements, live_of}
use Rattle.predicates.specs.Words.{Words}
use Rattle.predicates.proofs.ElementBits.{element_start, start_of, spread_at, span-bit, between-from-zero, in_bits, count-spread}
use Rattle.predicates.proofs.Flagging.{flags_are}
use Rattle.predicates.proofs.Words.{bit_past, pack-bit, pack_cong, pack_words}

-- E elements fit a predicate
pub elements_fit : (vl : ℕ) (size : Size) → elements vl size * 2 ^ shift size ≤ 256
unfolding elements predicate_length
elements_fit vl size = le_trans (div-mul-le_self (min (vl / 8) 256) (2 ^ shift size)) (min-le_right (vl / 8) 256)

pub elements-le : (vl : ℕ) (size : Size) → elements vl size ≤ 256
unfolding elements predicate_length
elements-le vl size = le_trans (div-le_self (min (vl / 8) 256) (2 ^ shift size)) (min-le_right (vl / 8) 256)

-- the elements' bits end at or below PL
pub elements-within : (vl : ℕ) (size : Size) → elements vl size * 2 ^ shift size ≤ predicate_length vl
unfolding elements
elements-within vl size = div-mul-le_self (predicate_length vl) (2 ^ shift size)

-- ---- a predicate under the first n elements

masked-bit : (k n : ℕ) (p : Predicate) (b : ℕ) (t : Bool) → element_bit k b ≡ t
    → (bit_at p b && (t && between 0 n (b / 2 ^ k))) ≡ (t && (ltb (b / 2 ^ k) n && active k p (b / 2 ^ k)))
unfolding active
masked-bit k n p b false e = and-false (bit_at p b)
masked-bit k n p b true e =
    ap (λ (x : Bool). bit_at p b && x) (between-from-zero n (b / 2 ^ k)) ∙ swap (bit_at p b) (ltb (b / 2 ^ k) n)
    ∙ ap (λ (x : ℕ). ltb (b / 2 ^ k) n && bit_at p x) (sym (start_of k b e))
  where
    swap : (x y : Bool) → (x && y) ≡ (y && x)
    swap true true = refl
    swap true false = refl
    swap false true = refl
    swap false false = refl

-- is the predicate of its active elements below n
pub masked : (k n : ℕ) (p : Predicate) → pack (λ b. bit_at p b && bit_at (span_of k 0 n) b) ≡ pack (spread k (λ e. ltb e n && active k p e))
unfolding spread
masked k n p = pack_cong _ _ (λ b h. ap (λ (x : Bool). bit_at p b && x) (span-bit k 0 n b h) ∙ masked-bit k n p b (element_bit k b) refl)

-- ---- searches over the bits of elements q, none of them active from n on

-- the bits of the predicate with the elements q
abbrev pub bits_of : ℕ → (ℕ → Bool) → ℕ → Bool
bits_of k q = bit_at (pack (spread k q))

module _ (k n : ℕ) (fits : n * 2 ^ k ≤ 256) (q : ℕ → Bool) (past : (e : ℕ) → n ≤ e → q e ≡ false) where
  abbrev bit : ℕ → Bool
  bit = bits_of k q

  bit-at : (e : ℕ) → e < n → bit (e * 2 ^ k) ≡ q e
  bit-at e l = pack-bit (spread k q) (e * 2 ^ k) (in_bits k n e l fits) ∙ spread_at k q e

  -- a bit that is set is the lowest of an element that is active
  none-at : (b : ℕ) → b < 256 → q (b / 2 ^ k) ≡ false → bit b ≡ false
  unfolding spread
  none-at b h z = pack-bit (spread k q) b h ∙ ap (λ (x : Bool). element_bit k b && x) z ∙ and-false (element_bit k b)

  none_off : (b : ℕ) → b < 256 → element_bit k b ≡ false → bit b ≡ false
  unfolding spread
  none_off b h z = pack-bit (spread k q) b h ∙ ap (λ (x : Bool). x && q (b / 2 ^ k)) z

  -- below the bits of e elements, a bit belongs to an element below e
  part_below : (b e : ℕ) → b < e * 2 ^ k → b / 2 ^ k < e
  part_below b e h = (div-lt_iff_lt-mul (pow_pos k)).1 h

  pub first_bit : (e : ℕ) → e ≡ first_from q 0 n → e < n → e * 2 ^ k ≡ first_from (bits_of k q) 0 256
  first_bit e h l =
      let r = first_found q 0 n zero-le in
      first_is bit 0 256 (e * 2 ^ k) (record {
        from = zero-le;
        upto = omega (arith, in_bits k n e l fits);
        none = λ b a m. none-at b (omega (arith, in_bits k n e l fits)) (r.none (b / 2 ^ k) zero-le (omega (arith, part_below b e m)));
        hit = λ a. bit-at e l ∙ ap q h ∙ r.hit (omega arith);
      })

  every-none : ((e : ℕ) → e < n → q e ≡ false) → (b : ℕ) → b < 256 → bit b ≡ false
  every-none z b h = none-at b h (elim (dec_lt (b / 2 ^ k) n) [ yes l ↦ z (b / 2 ^ k) l | no l ↦ past (b / 2 ^ k) (omega arith) ])

  pub first-none-bit : n ≤ first_from q 0 n → 256 ≡ first_from (bits_of k q) 0 256
  first-none-bit h =
      let r = first_found q 0 n zero-le in
      first_is bit 0 256 256 (record {
        from = zero-le;
        upto = omega arith;
        none = λ b a m. every-none (λ e l. r.none e zero-le (omega arith)) b m;
        hit = λ a. absurd (omega arith);
      })

  -- bits above that of element e, the last, are not set
  after_element : (e : ℕ) → suc e ≡ after_last q n → (b : ℕ) → suc (e * 2 ^ k) ≤ b → b < 256 → bit b ≡ false
  after_element e s b l h =
      let r = last_found q n in
      elim (dec_lt e (b / 2 ^ k)) [
        | yes m ↦ none-at b h (elim (dec_lt (b / 2 ^ k) n) [ yes u ↦ r.none (b / 2 ^ k) (omega arith) u | no u ↦ past (b / 2 ^ k) (omega arith) ])
        | no m ↦ none_off b h (not_start (element_bit k b) refl m)
      ]
    where
      not_start : (t : Bool) → element_bit k b ≡ t → (e < b / 2 ^ k → ⊥) → element_bit k b ≡ false
      not_start false t m = t
      not_start true t m =
          let whole : b / 2 ^ k * 2 ^ k ≡ b = start_of k b t in
          let small : b / 2 ^ k * 2 ^ k ≤ e * 2 ^ k = mul-le-mul_right (2 ^ k) (omega arith) in
          absurd (omega arith)

  last_bit : (e : ℕ) → suc e ≡ after_last q n → suc (e * 2 ^ k) ≡ after_last bit 256
  last_bit e s =
      let r = last_found q n in
      let l : e < n = omega (arith, r.upto) in
      last_is bit 256 (suc (e * 2 ^ k)) (record {
        upto = in_bits k n e l fits;
        none = after_element e s;
        hit = λ b t. let same : e * 2 ^ k ≡ b = omega arith in ap bit (sym same) ∙ bit-at e l ∙ r.hit e (sym s);
      })

  last_none-bit : 0 ≡ after_last q n → 0 ≡ after_last bit 256
  last_none-bit s =
      let r = last_found q n in
      last_is bit 256 0 (record {
        upto = zero-le;
        none = λ b a m. every-none (λ e l. r.none e (omega arith) l) b m;
        hit = λ b t. absurd (omega arith);
      })

  -- the last element, from the last bit
  pub last_element : (after_last (bits_of k q) 256 + (2 ^ k - 1)) / 2 ^ k ≡ after_last q n
  last_element = go (after_last q n) refl
    where
      go : (r : ℕ) → r ≡ after_last q n → (after_last bit 256 + (2 ^ k - 1)) / 2 ^ k ≡ after_last q n
      go zero s = rw (← last_none-bit s) (ap (λ (x : ℕ). x / 2 ^ k) (omega arith) ∙ div-eq_of_lt (ones_lt k) ∙ s)
      go (suc e) s =
          rw (← last_bit e s)
          (ap (λ (x : ℕ). x / 2 ^ k) (whole e) ∙ shl-shr (suc e) k ∙ s)
        where
          whole : (e : ℕ) → suc (e * 2 ^ k) + (2 ^ k - 1) ≡ suc e * 2 ^ k
          whole e = omega (arith, pow_pos k, suc-mul e (2 ^ k))

  -- the count of bits is the count of elements
  pub count_bits_lem : count (bits_of k q) 256 ≡ count q n
  count_bits_lem =
      count_end_lem bit (n * 2 ^ k) 256 fits (λ b l h. none-at b h (past (b / 2 ^ k) ((le-div_iff_mul-le (pow_pos k)).1 l)))
      ∙ count_cong _ _ (n * 2 ^ k) (λ b h. pack-bit (spread k q) b (omega arith)) ∙ count-spread k q n

-- ---- PredTest over elements, from PredTest over bits

-- the elements of a mask below n
abbrev pub upto : ℕ → (ℕ → Bool) → ℕ → Bool
upto n f e = ltb e n && f e

upto_past : (n : ℕ) (f : ℕ → Bool) (e : ℕ) → n ≤ e → upto n f e ≡ false
upto_past n f e h = ap (λ (x : Bool). x && f e) (le-ltb e n h)

pub upto_at : (n : ℕ) (f : ℕ → Bool) (e : ℕ) → e < n → upto n f e ≡ f e
upto_at n f e h = ap (λ (x : Bool). x && f e) (lt-ltb e n h)

module _ (k n : ℕ) (fits : n * 2 ^ k ≤ 256) (m r : Predicate) where
  abbrev mask : ℕ → Bool
  mask = bits_of k (upto n (active k m))

  -- at an element's lowest bit, mask and result are the elements
  at_start : (e : ℕ) → e < n → (mask (e * 2 ^ k) && bit_at r (e * 2 ^ k)) ≡ (active k m e && active k r e)
  unfolding active
  at_start e l =
      ap (λ (x : Bool). x && bit_at r (e * 2 ^ k)) (bit-at k n fits (upto n (active k m)) (upto_past n (active k m)) e l ∙ upto_at n (active k m) e l)

  miss : some (λ e. active k m e && active k r e) n ≡ false → (b : ℕ) → b < 256 → (t : Bool) → element_bit k b ≡ t → (mask b && bit_at r b) ≡ false
  miss s b h false t = ap (λ (x : Bool). x && bit_at r b) (none_off k n fits (upto n (active k m)) (upto_past n (active k m)) b h t)
  miss s b h true t =
      elim (dec_lt (b / 2 ^ k) n) [
        | yes l ↦
            ap (λ (x : ℕ). mask x && bit_at r x) (sym (start_of k b t)) ∙ at_start (b / 2 ^ k) l ∙ some-none _ n s (b / 2 ^ k) l
        | no l ↦
            ap (λ (x : Bool). x && bit_at r b)
            (none-at k n fits (upto n (active k m)) (upto_past n (active k m)) b h (upto_past n (active k m) (b / 2 ^ k) (omega arith)))
      ]

  lowest-same : at_lowest mask (bit_at r) 256 ≡ at_lowest (active k m) (active k r) n
  unfolding at_lowest active
  lowest-same = go (first_from (active k m) 0 n) refl
    where
      same : first_from (upto n (active k m)) 0 n ≡ first_from (active k m) 0 n
      same = first_cong _ _ 0 n zero-le (λ e a l. upto_at n (active k m) e l)

      go : (e : ℕ) → first_from (active k m) 0 n ≡ e → at_lowest mask (bit_at r) 256 ≡ at_lowest (active k m) (active k r) n
      go e s =
          elim (dec_lt e n) [
            | yes l ↦
                let low : first_from mask 0 256 ≡ e * 2 ^ k = sym (first_bit k n fits (upto n (active k m)) (upto_past n (active k m)) e (sym (same ∙ s)) l) in
                rw (low, s, lt-ltb (e * 2 ^ k) 256 (in_bits k n e l fits), lt-ltb e n l)
            | no l ↦
                let none : first_from mask 0 256 ≡ 256 = sym (first-none-bit k n fits (upto n (active k m)) (upto_past n (active k m)) (omega (arith, same, s))) in
                rw (none, s, le-ltb e n (omega arith))
          ]

  highest_same : at_highest mask (bit_at r) 256 ≡ at_highest (active k m) (active k r) n
  unfolding at_highest active
  highest_same = go (after_last (active k m) n) refl
    where
      same : after_last (upto n (active k m)) n ≡ after_last (active k m) n
      same = last_cong _ _ n (λ e l. upto_at n (active k m) e l)

      go : (e : ℕ) → after_last (active k m) n ≡ e → at_highest mask (bit_at r) 256 ≡ at_highest (active k m) (active k r) n
      go zero s =
          let none : after_last mask 256 ≡ 0 = sym (last_none-bit k n fits (upto n (active k m)) (upto_past n (active k m)) (sym (same ∙ s))) in
          rw (none, s)
      go (suc e) s =
          let top : after_last mask 256 ≡ suc (e * 2 ^ k) = sym (last_bit k n fits (upto n (active k m)) (upto_past n (active k m)) e (sym (same ∙ s))) in
          let down : suc (e * 2 ^ k) - 1 ≡ e * 2 ^ k = omega arith in
          let back : suc e - 1 ≡ e = omega arith in
          rw (top, s, down, back, lt-ltb 0 (suc (e * 2 ^ k)) (omega arith), lt-ltb 0 (suc e) (omega arith))

  some_same : some (λ b. mask b && bit_at r b) 256 ≡ some (λ e. active k m e && active k r e) n
  some_same = go (some (λ e. active k m e && active k r e) n) refl
    where
      go : (t : Bool) → some (λ e. active k m e && active k r e) n ≡ t → some (λ b. mask b && bit_at r b) 256 ≡ some (λ e. active k m e && active k r e) n
      go true s =
          let (e, l, t) = some_found (λ e. active k m e && active k r e) n s in
          some_yes (λ b. mask b && bit_at r b) 256 (e * 2 ^ k) (in_bits k n e l fits) (at_start e l ∙ t) ∙ sym s
      go false s = some_no (λ b. mask b && bit_at r b) 256 (λ b h. miss s b h (element_bit k b) refl) ∙ sym s

  -- PredTest over the bits of the masked elements is PredTest over the elements
  pub test_same : pred_test mask (bit_at r) 256 ≡ pred_test (active k m) (active k r) n
  unfolding pred_test
  test_same = flags_are lowest-same (ap not some_same) (ap not highest_same)

-- ---- the last element that has a bit set, from the last bit

module _ (k : ℕ) (p : Predicate) (words : Words p) where
  end : ℕ
  end = after_last (bit_at p) 256

  up : ℕ
  up = (end + (2 ^ k - 1)) / 2 ^ k

  -- rounded up
  up_le : up * 2 ^ k ≤ end + (2 ^ k - 1)
  unfolding up
  up_le = div-mul-le_self (end + (2 ^ k - 1)) (2 ^ k)

  end_le : end ≤ up * 2 ^ k
  unfolding up
  end_le = omega (arith, pow_pos k, suc-mul up (2 ^ k), (div-lt_iff_lt-mul {k = 2 ^ k} {x = end + (2 ^ k - 1)} {y = suc up} (pow_pos k)).0 (omega arith))

  past_end : (e i : ℕ) → up ≤ e → bit_at p (e * 2 ^ k + i) ≡ false
  unfolding end
  past_end e i h =
      let far : up * 2 ^ k ≤ e * 2 ^ k = mul-le-mul_right (2 ^ k) h in
      elim (dec_lt (e * 2 ^ k + i) 256) [
        | yes l ↦ (last_found (bit_at p) 256).none (e * 2 ^ k + i) (omega (arith, end_le)) l
        | no l ↦ bit_past p words (e * 2 ^ k + i) (omega arith)
      ]

  pub last_touched : (after_last (bit_at p) 256 + (2 ^ k - 1)) / 2 ^ k ≡ after_last (touched k p) 256
  unfolding touched up end
  last_touched = last_is (touched k p) 256 up (record {
    upto = most;
    none = λ e h l. some_no _ (2 ^ k) (λ i m. past_end e i h);
    hit = λ e s. has e s;
  })
    where
      most : up ≤ 256
      most = elim (dec_lt 256 up) [
        | yes l ↦ absurd (let far : 257 * 2 ^ k ≤ up * 2 ^ k = mul-le-mul_right (2 ^ k) l in omega (arith, up_le, pow_pos k, last_le (bit_at p) 256))
        | no l ↦ omega arith
      ]

      has : (e : ℕ) → up ≡ suc e → touched k p e ≡ true
      has e s =
          let whole : up * 2 ^ k ≡ e * 2 ^ k + 2 ^ k = ap (λ (x : ℕ). x * 2 ^ k) s ∙ suc-mul e (2 ^ k) in
          let back : e * 2 ^ k + (end - 1 - e * 2 ^ k) ≡ end - 1 = omega (arith, up_le, pow_pos k) in
          some_yes _ (2 ^ k) (end - 1 - e * 2 ^ k) (omega (arith, end_le, up_le, pow_pos k))
          (ap (bit_at p) back ∙ (last_found (bit_at p) 256).hit (end - 1) (omega (arith, up_le, pow_pos k)))

-- ---- a predicate under the live elements of a vector

module _ (vl : ℕ) (size : Size) (p m : Predicate) (under : m ≡ pack (λ b. bit_at p b && bit_at (live_of vl size) b)) where
  abbrev live : ℕ → Bool
  live = upto (elements vl size) (active (shift size) p)

  live_is : m ≡ pack (spread (shift size) live)
  live_is = under ∙ masked (shift size) (elements vl size) p

  pub count-live : count (bit_at m) 256 ≡ count (active (shift size) p) (elements vl size)
  count-live =
      ap (λ (x : Predicate). count (bit_at x) 256) live_is
      ∙ count_bits_lem (shift size) (elements vl size) (elements_fit vl size) live (upto_past (elements vl size) (active (shift size) p))
      ∙ count_cong _ _ (elements vl size) (λ e l. upto_at (elements vl size) (active (shift size) p) e l)

  pub last_live : after_last (touched (shift size) m) 256 ≡ after_last (active (shift size) p) (elements vl size)
  last_live =
      sym (last_touched (shift size) m (rw under (pack_words _)))
      ∙ ap (λ (x : Predicate). (after_last (bit_at x) 256 + (2 ^ shift size - 1)) / 2 ^ shift size) live_is
      ∙ last_element (shift size) (elements vl size) (elements_fit vl size) live (upto_past (elements vl size) (active (shift size) p))
      ∙ last_cong _ _ (elements vl size) (λ e l. upto_at (elements vl size) (active (shift size) p) e l)

  pub test_live : (r : Predicate) → pred_test (bit_at m) (bit_at r) 256 ≡ pred_test (active (shift size) p) (active (shift size) r) (elements vl size)
  test_live r =
      ap (λ (x : Predicate). pred_test (bit_at x) (bit_at r) 256) live_is
      ∙ test_same (shift size) (elements vl size) (elements_fit vl size) p r

  pub active-live : (e : ℕ) → e < elements vl size → active (shift size) p e ≡ true → bit_at m (e * 2 ^ shift size) ≡ true
  active-live e l h =
      ap (λ (x : Predicate). bit_at x (e * 2 ^ shift size)) live_is ∙ pack-bit _ (e * 2 ^ shift size) (in_bits (shift size) (elements vl size) e l (elements_fit vl size))
      ∙ spread_at (shift size) live e ∙ upto_at (elements vl size) (active (shift size) p) e l ∙ h

  -- the lowest bit is that of the first active element
  pub first_live : (e : ℕ) → e ≡ first_from (active (shift size) p) 0 (elements vl size) → e < elements vl size → e * 2 ^ shift size ≡ first_from (bit_at m) 0 256
  first_live e h l =
      first_bit (shift size) (elements vl size) (elements_fit vl size) live (upto_past (elements vl size) (active (shift size) p)) e (h ∙ sym same) l
      ∙ ap (λ (x : Predicate). first_from (bit_at x) 0 256) (sym live_is)
    where
      same : first_from live 0 (elements vl size) ≡ first_from (active (shift size) p) 0 (elements vl size)
      same = first_cong _ _ 0 (elements vl size) zero-le (λ i a b. upto_at (elements vl size) (active (shift size) p) i b)

  pub first-live-none : elements vl size ≤ first_from (active (shift size) p) 0 (elements vl size) → 256 ≡ first_from (bit_at m) 0 256
  first-live-none h =
      first-none-bit (shift size) (elements vl size) (elements_fit vl size) live (upto_past (elements vl size) (active (shift size) p)) (omega (arith, same))
      ∙ ap (λ (x : Predicate). first_from (bit_at x) 0 256) (sym live_is)
    where
      same : first_from live 0 (elements vl size) ≡ first_from (active (shift size) p) 0 (elements vl size)
      same = first_cong _ _ 0 (elements vl size) zero-le (λ i a b. upto_at (elements vl size) (active (shift size) p) i b)

-- ---- one element alone

only-bit : (k e b : ℕ) (t : Bool) → element_bit k b ≡ t → eqb b (e * 2 ^ k) ≡ (t && eqb (b / 2 ^ k) e)
only-bit k e b false t = ne_eqb b (e * 2 ^ k) (λ s. never (element_start k e) (ap (element_bit k) (sym s) ∙ t))
only-bit k e b true t =
    elim (ℕ_discrete (b / 2 ^ k) e) [
      | yes s ↦ eq-eqb b (e * 2 ^ k) (sym (start_of k b t) ∙ ap (λ (x : ℕ). x * 2 ^ k) s) ∙ sym (eq-eqb (b / 2 ^ k) e s)
      | no s ↦ ne_eqb b (e * 2 ^ k) (λ w. s (ap (λ (x : ℕ). x / 2 ^ k) w ∙ shl-shr e k)) ∙ sym (ne_eqb (b / 2 ^ k) e s)
    ]

-- an element's lowest bit alone is the element alone
pub only_element : (k e : ℕ) → pack (λ b. eqb b (e * 2 ^ k)) ≡ pack (spread k (λ i. eqb i e))
unfolding spread
only_element k e = pack_cong _ _ (λ b h. only-bit k e b (element_bit k b) refl)

-- an element past the last bit is none
pub no_element : (k e : ℕ) → 256 ≤ e → pack (λ b. false) ≡ pack (spread k (λ i. eqb i e))
unfolding spread
no_element k e l =
    pack_cong _ _ (λ b h.
    sym (ap (λ (x : Bool). element_bit k b && x) (ne_eqb (b / 2 ^ k) e (λ s. absurd (past-bit b h s))) ∙ and-false (element_bit k b)))
  where
    past-bit : (b : ℕ) → b < 256 → b / 2 ^ k ≡ e → ⊥
    past-bit b h s = omega (arith, div-le_self b (2 ^ k))
