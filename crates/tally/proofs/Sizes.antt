-- The counts of a word at the four sizes, from its bytes' bits. Assumes nothing.
use mathlib.Core.Path.{◌≡◌, refl, sym, ap, ap₂, ◌∙◌}
use Prim.Native.Nat.{ℕ, zero, suc, ◌+◌, ◌*◌, ◌/◌, ◌%◌, ◌^◌}
use native.Mathlib.Nat.{mod-lt, add-mul, add_comm, suc-mul}
use native.Mathlib.Omega.{arith}
use lib.Pow.{shr-shr}
use Rattle.bits.specs.Bits.{test_bit}
use Rattle.bits.specs.Choice.{digit}
use Rattle.bits.specs.Search.{count}
use Rattle.bits.proofs.Bits.{digit-eq, test_bit-low}
use Rattle.bits.proofs.Searches.{count_add, count_cong}
use Rattle.tally.specs.Tally.{packed, true_of, tally}
use Rattle.tally.proofs.Sums.{odds}

bit : (w j : ℕ) → digit (test_bit w j) ≡ w / 2 ^ j % 2
unfolding test_bit
bit w j = digit-eq (w / 2 ^ j % 2) (mod-lt (w / 2 ^ j) (omega arith))

next-byte : (w b : ℕ) → test_bit w (8 + b) ≡ test_bit (w / 256) b
unfolding test_bit
next-byte w b = rw (← shr-shr w 8 b)

-- one byte, and the rest: r elements of 2 ^ k bits make a byte
byte_off : (k r m w : ℕ) → r * 2 ^ k ≡ 8 → true_of k (test_bit w) (suc m * r) ≡ true_of k (test_bit (w / 256)) (m * r) + true_of k (test_bit w) r
unfolding true_of
byte_off k r m w e =
    ap (count (λ i. test_bit w (i * 2 ^ k))) (suc-mul m r ∙ add_comm (m * r) r)
    ∙ count_add (λ i. test_bit w (i * 2 ^ k)) r (m * r)
    ∙ ap (λ (x : ℕ). count (λ i. test_bit w (i * 2 ^ k)) r + x)
    (count_cong _ _ (m * r) (λ i l. ap (test_bit w) (add-mul r i (2 ^ k) ∙ ap (λ (x : ℕ). x + i * 2 ^ k) e) ∙ next-byte w (i * 2 ^ k)))
    ∙ add_comm (count (λ i. test_bit w (i * 2 ^ k)) r) _

swap2 : (x : ℕ) → x / 256 / 2 ≡ x / 2 / 256
swap2 x = omega arith

swap4 : (x : ℕ) → x / 256 / 4 ≡ x / 4 / 256
swap4 x = omega arith

swap8 : (x : ℕ) → x / 256 / 8 ≡ x / 8 / 256
swap8 x = omega arith

swap16 : (x : ℕ) → x / 256 / 16 ≡ x / 16 / 256
swap16 x = omega arith

-- a byte's elements at each size
byte-d : (w : ℕ) → true_of 3 (test_bit w) 1 ≡ w % 2
unfolding true_of count
byte-d w = let a : digit (test_bit w 0) ≡ w % 2 = test_bit-low w in omega (arith, a)

byte-s : (w : ℕ) → true_of 2 (test_bit w) 2 ≡ w % 2 + w / 16 % 2
unfolding true_of count
byte-s w =
    let a : digit (test_bit w 0) ≡ w % 2 = test_bit-low w in
    let b : digit (test_bit w 4) ≡ w / 16 % 2 = bit w 4 in
    omega (arith, a, b)

byte_h : (w : ℕ) → true_of 1 (test_bit w) 4 ≡ (w % 2 + w / 16 % 2) + (w / 4 % 2 + w / 4 / 16 % 2)
unfolding true_of count
byte_h w =
    let a : digit (test_bit w 0) ≡ w % 2 = test_bit-low w in
    let b : digit (test_bit w 4) ≡ w / 16 % 2 = bit w 4 in
    let c : digit (test_bit w 2) ≡ w / 4 % 2 = bit w 2 in
    let d : digit (test_bit w 6) ≡ w / 4 / 16 % 2 = bit w 6 ∙ ap (λ (x : ℕ). x % 2) (sym (shr-shr w 2 4)) in
    sum (digit (test_bit w 0)) (digit (test_bit w 2)) (digit (test_bit w 4)) (digit (test_bit w 6)) ∙ ap₂ (λ (x y : ℕ). x + y) (ap₂ (λ (x y : ℕ). x + y) a b) (ap₂ (λ (x y : ℕ). x + y) c d)
  where
    sum : (a c b d : ℕ) → 0 + a + c + b + d ≡ (a + b) + (c + d)
    sum a c b d = omega arith

byte_b : (w : ℕ) → true_of 0 (test_bit w) 8 ≡ ((w % 2 + w / 16 % 2) + (w / 4 % 2 + w / 4 / 16 % 2)) + ((w / 2 % 2 + w / 2 / 16 % 2) + (w / 8 % 2 + w / 8 / 16 % 2))
unfolding true_of count
byte_b w =
    let a : digit (test_bit w 0) ≡ w % 2 = test_bit-low w in
    let b : digit (test_bit w 4) ≡ w / 16 % 2 = bit w 4 in
    let c : digit (test_bit w 2) ≡ w / 4 % 2 = bit w 2 in
    let d : digit (test_bit w 6) ≡ w / 4 / 16 % 2 = bit w 6 ∙ ap (λ (x : ℕ). x % 2) (sym (shr-shr w 2 4)) in
    let e : digit (test_bit w 1) ≡ w / 2 % 2 = bit w 1 in
    let f : digit (test_bit w 5) ≡ w / 2 / 16 % 2 = bit w 5 ∙ ap (λ (x : ℕ). x % 2) (sym (shr-shr w 1 4)) in
    let g : digit (test_bit w 3) ≡ w / 8 % 2 = bit w 3 in
    let h : digit (test_bit w 7) ≡ w / 8 / 16 % 2 = bit w 7 ∙ ap (λ (x : ℕ). x % 2) (sym (shr-shr w 3 4)) in
    sum (digit (test_bit w 0)) (digit (test_bit w 1)) (digit (test_bit w 2)) (digit (test_bit w 3)) (digit (test_bit w 4)) (digit (test_bit w 5)) (digit (test_bit w 6)) (digit (test_bit w 7))
    ∙ ap₂ (λ (x y : ℕ). x + y)
    (ap₂ (λ (x y : ℕ). x + y) (ap₂ (λ (x y : ℕ). x + y) a b) (ap₂ (λ (x y : ℕ). x + y) c d))
    (ap₂ (λ (x y : ℕ). x + y) (ap₂ (λ (x y : ℕ). x + y) e f) (ap₂ (λ (x y : ℕ). x + y) g h))
  where
    sum : (a e c g b f d h : ℕ) → 0 + a + e + c + g + b + f + d + h ≡ ((a + b) + (c + d)) + ((e + f) + (g + h))
    sum a e c g b f d h = omega arith

mix : (a b x y : ℕ) → (a + b) + (x + y) ≡ (a + x) + (b + y)
mix a b x y = omega arith

-- bits 0 and 4 of the bytes of x
abbrev pub twos : ℕ → ℕ → ℕ
twos m x = odds m x + odds m (x / 16)

abbrev low_two : ℕ → ℕ
low_two x = x % 2 + x / 16 % 2

twos_step : (m x : ℕ) → twos m (x / 256) + low_two x ≡ twos (suc m) x
unfolding odds
twos_step m x = rw (swap16 x) (mix (odds m (x / 256)) (odds m (x / 16 / 256)) (x % 2) (x / 16 % 2))

pub true-d : (m w : ℕ) → true_of 3 (test_bit w) (m * 1) ≡ odds m w
unfolding odds true_of count
true-d zero w = refl
true-d (suc m) w = byte_off 3 1 m w refl ∙ ap₂ (λ (x y : ℕ). x + y) (true-d m (w / 256)) (byte-d w)

pub true-s : (m w : ℕ) → true_of 2 (test_bit w) (m * 2) ≡ twos m w
unfolding odds true_of count
true-s zero w = refl
true-s (suc m) w = byte_off 2 2 m w refl ∙ ap₂ (λ (x y : ℕ). x + y) (true-s m (w / 256)) (byte-s w) ∙ twos_step m w

pub true_h : (m w : ℕ) → true_of 1 (test_bit w) (m * 4) ≡ twos m w + twos m (w / 4)
unfolding odds true_of count
true_h zero w = refl
true_h (suc m) w =
    byte_off 1 4 m w refl ∙ ap₂ (λ (x y : ℕ). x + y) (true_h m (w / 256) ∙ ap (λ (x : ℕ). twos m (w / 256) + twos m x) (swap4 w)) (byte_h w)
    ∙ mix (twos m (w / 256)) (twos m (w / 4 / 256)) (low_two w) (low_two (w / 4))
    ∙ ap₂ (λ (x y : ℕ). x + y) (twos_step m w) (twos_step m (w / 4))

pub true_b : (m w : ℕ) → true_of 0 (test_bit w) (m * 8) ≡ (twos m w + twos m (w / 4)) + (twos m (w / 2) + twos m (w / 8))
unfolding odds true_of count
true_b zero w = refl
true_b (suc m) w =
    byte_off 0 8 m w refl
    ∙ ap₂ (λ (x y : ℕ). x + y)
    (true_b m (w / 256) ∙ ap₂ (λ (x y : ℕ). (twos m (w / 256) + twos m x) + y) (swap4 w) (ap₂ (λ (x y : ℕ). twos m x + twos m y) (swap2 w) (swap8 w)))
    (byte_b w)
    ∙ mix (twos m (w / 256) + twos m (w / 4 / 256)) (twos m (w / 2 / 256) + twos m (w / 8 / 256)) (low_two w + low_two (w / 4)) (low_two (w / 2) + low_two (w / 8))
    ∙ ap₂ (λ (x y : ℕ). x + y)
    (mix (twos m (w / 256)) (twos m (w / 4 / 256)) (low_two w) (low_two (w / 4)) ∙ ap₂ (λ (x y : ℕ). x + y) (twos_step m w) (twos_step m (w / 4)))
    (mix (twos m (w / 2 / 256)) (twos m (w / 8 / 256)) (low_two (w / 2)) (low_two (w / 8)) ∙ ap₂ (λ (x y : ℕ). x + y) (twos_step m (w / 2)) (twos_step m (w / 8)))

-- the four counts of a word
pub tally_is : (m w : ℕ) → tally (test_bit w) m ≡ packed ((twos m w + twos m (w / 4)) + (twos m (w / 2) + twos m (w / 8))) (twos m w + twos m (w / 4)) (twos m w) (odds m w)
unfolding tally
tally_is m w = rw (true_b m w, true_h m w, true-s m w, true-d m w)
