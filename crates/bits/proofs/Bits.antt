-- Laws of numbers made of bits. A word operation is the Boolean operation at each bit: one law over the operation. Assumes nothing.
use mathlib.Core.Bool.{Bool, true, false, not, ◌&&◌, ◌||◌, beq}
use mathlib.Core.Path.{◌≡◌, refl, sym, ap, ap₂, ◌∙◌}
use Prim.Native.Nat.{ℕ, zero, suc, ◌+◌, ◌-◌, ◌*◌, ◌/◌, ◌%◌, ◌^◌, ◌≤◌, ◌<◌, zero-le, min}
use native.Mathlib.Decide.{dec_lt}
use native.Mathlib.Nat.{add-zero, add-suc, suc-add, pow-suc, pow-zero, pow-succ', div-div-eq-div-mul, div-one, zero-add, zero-div, mul_assoc, mul-mod_left, mod-eq_of_lt, mod-one, mod-lt}
use native.Mathlib.Numerals.{add-one}
use native.Mathlib.Omega.{arith}
use lib.Bits.{bit_and, bit_or, bit_xor, and_block, or_block, xor_block}
use lib.Dec.{eqb, leb}
use lib.Pow.{pow_pos, mod-pow-add, shl-shr, shr-shr, ones_split, ones_lt, high}
use borrow.Author.Tests.{lt-ltb, le-ltb, le-leb, lt-leb, eq-eqb, ne_eqb}
use Rattle.bits.specs.Bits.{test_bit, number, below}
use Rattle.bits.specs.Choice.{digit}
use Rattle.bits.proofs.Searches.{digit_lt}
use Rattle.bits.proofs.Sizes.{power_parts}

digit_is : (b : Bool) → eqb (digit b) 1 ≡ b
digit_is true = refl
digit_is false = refl

pub digit-eq : (x : ℕ) → x < 2 → digit (eqb x 1) ≡ x
digit-eq zero h = refl
digit-eq (suc zero) h = refl
digit-eq (suc (suc x)) h = absurd (omega arith)

-- ---- one bit

pub test_bit-zero : (i : ℕ) → test_bit 0 i ≡ false
unfolding test_bit
test_bit-zero i = rw zero-div

pub test_bit-suc : (w i : ℕ) → test_bit w (suc i) ≡ test_bit (w / 2) i
unfolding test_bit
test_bit-suc w i = rw (pow-succ', ← div-div-eq-div-mul)

pub test_bit-low : (w : ℕ) → digit (test_bit w 0) ≡ w % 2
unfolding test_bit
test_bit-low w = rw (pow-zero, div-one) (digit-eq (w % 2) (mod-lt w (omega arith)))

-- ---- a number and its bits

pub number_lt : (f : ℕ → Bool) (at n : ℕ) → number f at n < 2 ^ n
unfolding number
number_lt f at zero = omega arith
number_lt f at (suc n) = rw (pow-suc 2 n) (omega (arith, number_lt f (suc at) n, digit_lt (f at)))

-- the same bits, perhaps from another start, make the same number
pub number_cong : (f g : ℕ → Bool) (at to n : ℕ) → ((i : ℕ) → i < n → f (at + i) ≡ g (to + i)) → number f at n ≡ number g to n
unfolding number
number_cong f g at to zero h = refl
number_cong f g at to (suc n) h =
    ap₂ (λ (x y : ℕ). x * 2 + y)
    (number_cong f g (suc at) (suc to) n (λ i l. ap f (suc-add at i ∙ sym (add-suc at i)) ∙ h (suc i) (omega arith) ∙ ap g (add-suc to i ∙ sym (suc-add to i))))
    (ap digit (ap f (sym (add-zero at)) ∙ h 0 (omega arith) ∙ ap g (add-zero to)))

pub test_bit-number : (f : ℕ → Bool) (at n i : ℕ) → i < n → test_bit (number f at n) i ≡ f (at + i)
unfolding number test_bit
test_bit-number f at zero i h = absurd (omega arith)
test_bit-number f at (suc n) zero h =
    let e : (number f (suc at) n * 2 + digit (f at)) % 2 ≡ digit (f at) = omega (arith, digit_lt (f at)) in
    rw (pow-zero, div-one, e, add-zero) (digit_is (f at))
test_bit-number f at (suc n) (suc i) h =
    let e : (number f (suc at) n * 2 + digit (f at)) / 2 ≡ number f (suc at) n = omega (arith, digit_lt (f at)) in
    rw (pow-succ', ← div-div-eq-div-mul, e) (test_bit-number f (suc at) n i (omega arith) ∙ ap f (suc-add at i ∙ sym (add-suc at i)))

-- the digits of w from `at` on
pub number-test_bit : (w at n : ℕ) → number (test_bit w) at n ≡ w / 2 ^ at % 2 ^ n
unfolding number test_bit
number-test_bit w at zero = sym (mod-one (w / 2 ^ at))
number-test_bit w at (suc n) =
    rw (number-test_bit w (suc at) n, digit-eq (w / 2 ^ at % 2) (mod-lt (w / 2 ^ at) (omega arith)), ← add-one n, ← add-one at)
    (sym (mod-pow-add (w / 2 ^ at) n 1 ∙ ap (λ (x : ℕ). (x % 2 ^ n) * 2 + w / 2 ^ at % 2) (shr-shr w at 1)))

-- a number is its bits
pub number-whole : (w n : ℕ) → w < 2 ^ n → number (test_bit w) 0 n ≡ w
number-whole w n h = number-test_bit w 0 n ∙ ap (λ (x : ℕ). x % 2 ^ n) (div-one w) ∙ mod-eq_of_lt h

-- a number is 0 exactly if no bit of it is set
pub number-none : (f : ℕ → Bool) (at n : ℕ) → ((i : ℕ) → i < n → f (at + i) ≡ false) → number f at n ≡ 0
unfolding number
number-none f at zero h = refl
number-none f at (suc n) h =
    ap₂ (λ (x y : ℕ). x * 2 + y)
    (number-none f (suc at) n (λ i l. ap f (suc-add at i ∙ sym (add-suc at i)) ∙ h (suc i) (omega arith)))
    (ap digit (ap f (sym (add-zero at)) ∙ h 0 (omega arith)))

-- bits that are not set above the first n change nothing
pub number-padded : (f : ℕ → Bool) (at n m : ℕ) → n ≤ m → ((i : ℕ) → n ≤ i → i < m → f (at + i) ≡ false) → number f at m ≡ number f at n
unfolding number
number-padded f at zero m h z = number-none f at m (λ i l. z i zero-le l)
number-padded f at (suc n) zero h z = absurd (omega arith)
number-padded f at (suc n) (suc m) h z =
    ap (λ (x : ℕ). x * 2 + digit (f at))
    (number-padded f (suc at) n m (omega arith) (λ i a b. ap f (suc-add at i ∙ sym (add-suc at i)) ∙ z (suc i) (omega arith) (omega arith)))

-- ---- word operations

module _ (op : Bool → Bool → Bool) (word : ℕ → ℕ → ℕ)
    (zeros : word 0 0 ≡ 0)
    (digits : (a b : Bool) → word (digit a) (digit b) ≡ digit (op a b))
    (block : (a b r s : ℕ) → r < 2 → s < 2 → word (a * 2 + r) (b * 2 + s) ≡ word a b * 2 + word r s) where
  pub number-op : (f g : ℕ → Bool) (at n : ℕ) → number (λ i. op (f i) (g i)) at n ≡ word (number f at n) (number g at n)
  unfolding number
  number-op f g at zero = sym zeros
  number-op f g at (suc n) =
      ap₂ (λ (x y : ℕ). x * 2 + y) (number-op f g (suc at) n) (sym (digits (f at) (g at)))
      ∙ sym (block (number f (suc at) n) (number g (suc at) n) (digit (f at)) (digit (g at)) (digit_lt (f at)) (digit_lt (g at)))

and-digits : (a b : Bool) → bit_and (digit a) (digit b) ≡ digit (a && b)
and-digits true true = refl
and-digits true false = refl
and-digits false true = refl
and-digits false false = refl

or_digits : (a b : Bool) → bit_or (digit a) (digit b) ≡ digit (a || b)
or_digits true true = refl
or_digits true false = refl
or_digits false true = refl
or_digits false false = refl

xor-digits : (a b : Bool) → bit_xor (digit a) (digit b) ≡ digit (not (beq a b))
xor-digits true true = refl
xor-digits true false = refl
xor-digits false true = refl
xor-digits false false = refl

pub number-and : (f g : ℕ → Bool) (at n : ℕ) → number (λ i. f i && g i) at n ≡ bit_and (number f at n) (number g at n)
number-and = number-op ◌&&◌ bit_and refl and-digits (and_block 1)

pub number-or : (f g : ℕ → Bool) (at n : ℕ) → number (λ i. f i || g i) at n ≡ bit_or (number f at n) (number g at n)
number-or = number-op ◌||◌ bit_or refl or_digits (or_block 1)

pub number-xor : (f g : ℕ → Bool) (at n : ℕ) → number (λ i. not (beq (f i) (g i))) at n ≡ bit_xor (number f at n) (number g at n)
number-xor = number-op (λ a b. not (beq a b)) bit_xor refl xor-digits (xor_block 1)

pub test_bit-and : (a b n i : ℕ) → a < 2 ^ n → b < 2 ^ n → i < n → test_bit (bit_and a b) i ≡ (test_bit a i && test_bit b i)
test_bit-and a b n i ha hb h =
    ap (λ (w : ℕ). test_bit w i) (sym (number-and (test_bit a) (test_bit b) 0 n ∙ ap₂ bit_and (number-whole a n ha) (number-whole b n hb)))
    ∙ test_bit-number (λ j. test_bit a j && test_bit b j) 0 n i h ∙ ap (λ (j : ℕ). test_bit a j && test_bit b j) (zero-add i)

-- ---- the bits from a bit on

-- a number shifted right and back keeps its bits from s on, and no other
pub test_bit-from : (w s i : ℕ) → test_bit (w / 2 ^ s * 2 ^ s) i ≡ (leb s i && test_bit w i)
unfolding test_bit
test_bit-from w s i = elim (dec_lt i s) [ yes l ↦ lost l | no l ↦ kept (omega arith) ]
  where
    lost : i < s → eqb (w / 2 ^ s * 2 ^ s / 2 ^ i % 2) 1 ≡ (leb s i && eqb (w / 2 ^ i % 2) 1)
    lost l =
        let parts : w / 2 ^ s * 2 ^ s ≡ w / 2 ^ s * 2 ^ (s - suc i) * 2 * 2 ^ i =
        ap (λ (x : ℕ). w / 2 ^ s * x) (sym (power_parts (suc i) s l)) ∙ sym (mul_assoc (w / 2 ^ s) (2 ^ (s - suc i)) (2 ^ suc i))
        ∙ ap (λ (x : ℕ). w / 2 ^ s * 2 ^ (s - suc i) * x) (pow-succ' 2 i) ∙ sym (mul_assoc (w / 2 ^ s * 2 ^ (s - suc i)) 2 (2 ^ i)) in
        ap (λ (x : ℕ). eqb (x / 2 ^ i % 2) 1) parts ∙ ap (λ (x : ℕ). eqb (x % 2) 1) (shl-shr (w / 2 ^ s * 2 ^ (s - suc i) * 2) i)
        ∙ ap (λ (x : ℕ). eqb x 1) (mul-mod_left (w / 2 ^ s * 2 ^ (s - suc i)) 2) ∙ sym (ap (λ (t : Bool). t && eqb (w / 2 ^ i % 2) 1) (lt-leb s i l))

    kept : s ≤ i → eqb (w / 2 ^ s * 2 ^ s / 2 ^ i % 2) 1 ≡ (leb s i && eqb (w / 2 ^ i % 2) 1)
    kept l =
        let e : s + (i - s) ≡ i = omega arith in
        let apart : (x : ℕ) → x / 2 ^ i ≡ x / 2 ^ s / 2 ^ (i - s) = λ x. sym (shr-shr x s (i - s) ∙ ap (λ (y : ℕ). x / 2 ^ y) e) in
        ap (λ (x : ℕ). eqb (x % 2) 1) (apart (w / 2 ^ s * 2 ^ s) ∙ ap (λ (x : ℕ). x / 2 ^ (i - s)) (shl-shr (w / 2 ^ s) s) ∙ sym (apart w))
        ∙ sym (ap (λ (t : Bool). t && eqb (w / 2 ^ i % 2) 1) (le-leb s i l))

-- ---- the bits below a bound

pub number-below : (m at n : ℕ) → number (below m) at n ≡ 2 ^ min (m - at) n - 1
unfolding number below
number-below m at zero = let e : min (m - at) 0 ≡ 0 = omega arith in rw e
number-below m at (suc n) =
    elim (dec_lt at m) [
      | yes h ↦
          let e : min (m - at) (suc n) ≡ suc (min (m - suc at) n) = omega arith in
          rw (number-below m (suc at) n, lt-ltb at m h, e, pow-suc) (omega (arith, pow_pos (min (m - suc at) n)))
      | no h ↦
          let e : min (m - at) (suc n) ≡ 0 = omega arith in
          let d : min (m - suc at) n ≡ 0 = omega arith in
          rw (number-below m (suc at) n, le-ltb at m (omega arith), e, d)
    ]

-- all ones, shifted right
pub ones_shifted : (k n : ℕ) → n ≤ k → (2 ^ k - 1) / 2 ^ (k - n) ≡ 2 ^ n - 1
ones_shifted k n h =
    let e : k ≡ n + (k - n) = omega arith in
    ap (λ (x : ℕ). (2 ^ x - 1) / 2 ^ (k - n)) e ∙ ap (λ (x : ℕ). x / 2 ^ (k - n)) (ones_split n (k - n)) ∙ high (2 ^ n - 1) (k - n) (ones_lt (k - n))

-- ---- the bits that are not set

flipped : (b : Bool) → digit (not b) + digit b ≡ 1
flipped true = refl
flipped false = refl

with-not : (f : ℕ → Bool) (at n : ℕ) → number (λ i. not (f i)) at n + number f at n + 1 ≡ 2 ^ n
unfolding number
with-not f at zero = refl
with-not f at (suc n) = rw (pow-suc 2 n) (omega (arith, with-not f (suc at) n, flipped (f at)))

pub number-not : (f : ℕ → Bool) (at n : ℕ) → number (λ i. not (f i)) at n ≡ 2 ^ n - 1 - number f at n
number-not f at n = omega (arith, with-not f at n)

-- ---- one bit alone

pub number-only : (at n i : ℕ) → i < n → number (λ b. eqb b (at + i)) at n ≡ 2 ^ i
unfolding number
number-only at zero i h = absurd (omega arith)
number-only at (suc n) zero h =
    rw (number-none (λ b. eqb b (at + 0)) (suc at) n (λ j l. ne_eqb (suc at + j) (at + 0) (omega arith)), eq-eqb at (at + 0) (sym (add-zero at)))
number-only at (suc n) (suc i) h =
    let e : number (λ b. eqb b (at + suc i)) (suc at) n ≡ 2 ^ i =
    ap (λ (k : ℕ). number (λ b. eqb b k) (suc at) n) (add-suc at i ∙ sym (suc-add at i)) ∙ number-only (suc at) n i (omega arith) in
    rw (e, ne_eqb at (at + suc i) (omega arith), pow-suc 2 i) (omega arith)
