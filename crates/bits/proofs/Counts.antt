-- The processor's counts of a word's bits are searches among its bits. Assumes nothing.
use mathlib.Core.Bool.{Bool, true, false}
use mathlib.Core.Path.{◌≡◌, refl, sym, ap, ap₂, ◌∙◌}
use Prim.Native.Nat.{ℕ, zero, suc, ◌+◌, ◌-◌, ◌/◌, ◌^◌, ◌≤◌, ◌<◌, zero-le}
use native.Mathlib.Decide.{dec_lt}
use native.Mathlib.Nat.{le_refl, pow-suc, pow-succ', div-eq_of_lt, div-lt_iff_lt-mul, le-div_iff_mul-le, lt_of_lt_of_le}
use native.Mathlib.Numerals.{add-one}
use native.Mathlib.Omega.{arith}
use lib.Arith.{lt-one}
use lib.Count.{ones, ones_step, ones-ones, under, count_trailing_zeros, count_leading_zeros, leading_length}
use lib.Pow.{pow_mono, pow_pos, shr_lt}
use Rattle.bits.specs.Bits.{test_bit}
use Rattle.bits.specs.Choice.{pick, digit}
use Rattle.bits.specs.Search.{count, first_from, after_last, scan}
use Rattle.bits.proofs.Bits.{test_bit-suc, test_bit-low}
use Rattle.bits.proofs.Searches.{never, count_low, count_cong, first-low, first_cong, last_found, last_is}

half_lt : (w k : ℕ) → w < 2 ^ suc k → w / 2 < 2 ^ k
half_lt w k h = shr_lt k 1 (rw (← add-one k) at h)

pub ones-count : (k w : ℕ) → w < 2 ^ k → ones w ≡ count (test_bit w) k
unfolding count
ones-count zero w h = ap ones (lt-one h) ∙ ones-ones 0
ones-count (suc k) w h =
    ones_step w
    ∙ ap₂ (λ (x y : ℕ). x + y) (sym (test_bit-low w)) (ones-count k (w / 2) (half_lt w k h) ∙ count_cong _ _ k (λ e l. sym (test_bit-suc w e)))
    ∙ sym (count_low (test_bit w) k)

under_digit : (b : Bool) (t : ℕ) → under (digit b) t ≡ pick b 0 (suc t)
under_digit true t = refl
under_digit false t = refl

pub trailing_first : (k w : ℕ) → count_trailing_zeros k w ≡ first_from (test_bit w) 0 k
unfolding count_trailing_zeros scan
trailing_first zero w = refl
trailing_first (suc k) w =
    ap₂ under (sym (test_bit-low w)) (trailing_first k (w / 2) ∙ first_cong _ _ 0 k (omega arith) (λ e l m. sym (test_bit-suc w e)))
    ∙ under_digit (test_bit w 0) (first_from (λ e. test_bit w (suc e)) 0 k) ∙ sym (first-low (test_bit w) k)

-- a number below 2 ^ m has no bit from m on
pub above_none : (w m e : ℕ) → w < 2 ^ m → m ≤ e → test_bit w e ≡ false
unfolding test_bit
above_none w m e h l = rw (div-eq_of_lt (lt_of_lt_of_le h (pow_mono l)))

-- a number between 2 ^ e and 2 ^ (e + 1) has bit e
top_bit : (w e : ℕ) → 2 ^ e ≤ w → w < 2 ^ suc e → test_bit w e ≡ true
unfolding test_bit
top_bit w e h l =
    let below_two : w / 2 ^ e < 2 = (div-lt_iff_lt-mul (pow_pos e)).1 (omega (arith, pow-succ' 2 e)) in
    let above_zero : 1 ≤ w / 2 ^ e = (le-div_iff_mul-le (pow_pos e)).1 (omega arith) in
    let d : w / 2 ^ e ≡ 1 = omega arith in
    rw d

pub leading_last : (k w : ℕ) → w < 2 ^ k → k - count_leading_zeros k w ≡ after_last (test_bit w) k
leading_last k w h =
    let (m, sum, small, large) = leading_length k w h in
    last_is (test_bit w) k (k - count_leading_zeros k w) (record {
      upto = omega arith;
      none = λ e l b. above_none w m e small (omega arith);
      hit = λ e s. let d : m ≡ suc e = omega arith in
          top_bit w e (omega (arith, pow-suc 2 e, rw d at large)) (rw d at small);
    })

-- the last bit of a number below 2 ^ m is below m
pub last_within : (w m n : ℕ) → w < 2 ^ m → after_last (test_bit w) n ≤ m
last_within w m n h = go (after_last (test_bit w) n) refl
  where
    go : (r : ℕ) → after_last (test_bit w) n ≡ r → r ≤ m
    go zero s = zero-le
    go (suc e) s = elim (dec_lt e m) [
      | yes l ↦ l
      | no l ↦ never ((last_found (test_bit w) n).hit e s) (above_none w m e h (omega arith))
    ]

-- 2 ^ e has its last bit at e
pub last_of_power : (e n : ℕ) → e < n → after_last (test_bit (2 ^ e)) n ≡ suc e
last_of_power e n h =
    sym (last_is (test_bit (2 ^ e)) n (suc e) (record {
      upto = h;
      none = λ b l m. above_none (2 ^ e) (suc e) b below l;
      hit = λ b s. let d : e ≡ b = omega arith in ap (test_bit (2 ^ e)) (sym d) ∙ top_bit (2 ^ e) e (le_refl (2 ^ e)) below;
    }))
  where
    below : 2 ^ e < 2 ^ suc e
    below = omega (arith, pow-suc 2 e, pow_pos e)
