-- Planes by way of fields of two bits: two words' bits are added in fields of two, and the fields are split. Assumes nothing.
use mathlib.Core.Path.{◌≡◌, sym, ap, ap₂, ◌∙◌}
use Prim.Native.Nat.{ℕ, zero, suc, ◌+◌, ◌*◌, ◌/◌, ◌%◌, ◌<◌}
use native.Mathlib.Nat.{mod-lt, div-add-mod'}
use native.Mathlib.Omega.{arith}
use lib.Bits.{bit_and, and_block, and_mask, and_zero_r}
use lib.Dec.{lit<}
use lib.Pow.{mod-mod-pow, mod-pow-add}
use Rattle.tally.specs.Planes.{plane, fields}
use Rattle.tally.proofs.Sums.{rep, plane_is}

-- m halves of a byte alike
unfoldable pub nibs : ℕ → ℕ → ℕ
nibs v zero = 0
nibs v (suc m) = nibs v m * 16 + v

nib_and : (v m x : ℕ) → v < 16 → bit_and x (nibs v m * 16 + v) ≡ bit_and (x / 16) (nibs v m) * 16 + bit_and (x % 16) v
nib_and v m x h =
    ap (λ (n : ℕ). bit_and n (nibs v m * 16 + v)) (sym (div-add-mod' x 16))
    ∙ and_block 4 (x / 16) (nibs v m) (x % 16) v (mod-lt x (lit< tt)) h

one_bit : (m x : ℕ) → bit_and x (nibs 1 (suc m)) ≡ bit_and (x / 16) (nibs 1 m) * 16 + x % 2
unfolding nibs
one_bit m x = nib_and 1 m x (lit< tt) ∙ ap (λ (n : ℕ). bit_and (x / 16) (nibs 1 m) * 16 + n) (and_mask (x % 16) 1 ∙ mod-mod-pow x 3 1)

two_bits : (m x : ℕ) → bit_and x (nibs 3 (suc m)) ≡ bit_and (x / 16) (nibs 3 m) * 16 + x % 4
unfolding nibs
two_bits m x = nib_and 3 m x (lit< tt) ∙ ap (λ (n : ℕ). bit_and (x / 16) (nibs 3 m) * 16 + n) (and_mask (x % 16) 2 ∙ mod-mod-pow x 2 2)

-- bits 0 and 2 of half a byte
evens : (x : ℕ) → bit_and (x % 16) 5 ≡ x % 2 + x / 4 % 2 * 4
evens x =
    let cut : x % 16 ≡ x / 4 % 4 * 4 + x % 4 = mod-pow-add x 2 2 in
    ap (λ (n : ℕ). bit_and n (1 * 4 + 1)) cut
    ∙ and_block 2 (x / 4 % 4) 1 (x % 4) 1 (mod-lt x (lit< tt)) (lit< tt)
    ∙ ap₂ (λ (p q : ℕ). p * 4 + q) (and_mask (x / 4 % 4) 1 ∙ mod-mod-pow (x / 4) 1 1) (and_mask (x % 4) 1 ∙ mod-mod-pow x 1 1)
    ∙ swap (x / 4 % 2) (x % 2)
  where
    swap : (p q : ℕ) → p * 4 + q ≡ q + p * 4
    swap p q = omega arith

even_bits : (m x : ℕ) → bit_and x (nibs 5 (suc m)) ≡ bit_and (x / 16) (nibs 5 m) * 16 + (x % 2 + x / 4 % 2 * 4)
unfolding nibs
even_bits m x = nib_and 5 m x (lit< tt) ∙ ap (λ (n : ℕ). bit_and (x / 16) (nibs 5 m) * 16 + n) (evens x)

regroup : (p q a b e f : ℕ) → (p * 16 + (a + e * 4)) + (q * 16 + (b + f * 4)) ≡ (p + q) * 16 + ((a + b) + (e + f) * 4)
regroup p q a b e f = omega arith

pub fields_is : (m x y : ℕ) → bit_and x (nibs 5 m) + bit_and y (nibs 5 m) ≡ fields m x y
unfolding fields nibs
fields_is zero x y = rw (and_zero_r x, and_zero_r y)
fields_is (suc m) x y =
    ap₂ (λ (p q : ℕ). p + q) (even_bits m x) (even_bits m y)
    ∙ regroup (bit_and (x / 16) (nibs 5 m)) (bit_and (y / 16) (nibs 5 m)) (x % 2) (y % 2) (x / 4 % 2) (y / 4 % 2)
    ∙ ap (λ (n : ℕ). n * 16 + ((x % 2 + y % 2) + (x / 4 % 2 + y / 4 % 2) * 4)) (fields_is m (x / 16) (y / 16))

record Cut (p t s x : ℕ) : Type 0 where
  up : x / 16 ≡ p
  low : x % 4 ≡ t
  upper : x / 4 / 16 ≡ p / 4
  high : x / 4 % 4 ≡ s

cut : (p t s : ℕ) → t < 4 → s < 4 → Cut p t s (p * 16 + (t + s * 4))
cut p t s ht hs = record { up = omega arith; low = omega arith; upper = omega arith; high = omega arith }

sum : (p q a b : ℕ) → (p + q) * 16 + (a + b) ≡ (p * 16 + a) + (q * 16 + b)
sum p q a b = omega arith

swap : (x : ℕ) → x / 16 / 4 ≡ x / 4 / 16
swap x = omega arith

pub fields-low : (m x y : ℕ) → bit_and (fields m x y) (nibs 3 m) ≡ bit_and x (nibs 1 m) + bit_and y (nibs 1 m)
unfolding fields nibs
fields-low zero x y = rw (and_zero_r (fields 0 x y), and_zero_r x, and_zero_r y)
fields-low (suc m) x y =
    let k = cut (fields m (x / 16) (y / 16)) (x % 2 + y % 2) (x / 4 % 2 + y / 4 % 2) (omega arith) (omega arith) in
    two_bits m (fields m (x / 16) (y / 16) * 16 + ((x % 2 + y % 2) + (x / 4 % 2 + y / 4 % 2) * 4))
    ∙ ap₂ (λ (p q : ℕ). bit_and p (nibs 3 m) * 16 + q) k.up k.low
    ∙ ap (λ (n : ℕ). n * 16 + (x % 2 + y % 2)) (fields-low m (x / 16) (y / 16))
    ∙ sum (bit_and (x / 16) (nibs 1 m)) (bit_and (y / 16) (nibs 1 m)) (x % 2) (y % 2)
    ∙ sym (ap₂ (λ (p q : ℕ). p + q) (one_bit m x) (one_bit m y))

pub fields_high : (m x y : ℕ) → bit_and (fields m x y / 4) (nibs 3 m) ≡ bit_and (x / 4) (nibs 1 m) + bit_and (y / 4) (nibs 1 m)
unfolding fields nibs
fields_high zero x y = rw (and_zero_r (fields 0 x y / 4), and_zero_r (x / 4), and_zero_r (y / 4))
fields_high (suc m) x y =
    let k = cut (fields m (x / 16) (y / 16)) (x % 2 + y % 2) (x / 4 % 2 + y / 4 % 2) (omega arith) (omega arith) in
    two_bits m ((fields m (x / 16) (y / 16) * 16 + ((x % 2 + y % 2) + (x / 4 % 2 + y / 4 % 2) * 4)) / 4)
    ∙ ap₂ (λ (p q : ℕ). bit_and p (nibs 3 m) * 16 + q) k.upper k.high
    ∙ ap (λ (n : ℕ). n * 16 + (x / 4 % 2 + y / 4 % 2)) (fields_high m (x / 16) (y / 16) ∙ ap₂ (λ (p q : ℕ). bit_and p (nibs 1 m) + bit_and q (nibs 1 m)) (swap x) (swap y))
    ∙ sum (bit_and (x / 4 / 16) (nibs 1 m)) (bit_and (y / 4 / 16) (nibs 1 m)) (x / 4 % 2) (y / 4 % 2)
    ∙ sym (ap₂ (λ (p q : ℕ). p + q) (one_bit m (x / 4)) (one_bit m (y / 4)))

abbrev m3 : ℕ
m3 = 0x3333_3333_3333_3333

assoc : (a b c d : ℕ) → (a + b) + (c + d) ≡ a + b + c + d
assoc a b c d = omega arith

-- the low fields of two sums are a plane of the four words, and the high ones that of the words two bits down
pub low-plane : (a b c d e f : ℕ) → e ≡ fields 16 a b → f ≡ fields 16 c d → bit_and e m3 + bit_and f m3 ≡ plane 8 a b c d
unfolding nibs rep
low-plane a b c d e f he hf =
    ap₂ (λ (x y : ℕ). bit_and x m3 + bit_and y m3) he hf ∙ ap₂ (λ (x y : ℕ). x + y) (fields-low 16 a b) (fields-low 16 c d)
    ∙ assoc (bit_and a (nibs 1 16)) (bit_and b (nibs 1 16)) (bit_and c (nibs 1 16)) (bit_and d (nibs 1 16)) ∙ plane_is 8 a b c d

pub high_plane : (a b c d e f : ℕ) → e ≡ fields 16 a b → f ≡ fields 16 c d → bit_and (e / 4) m3 + bit_and (f / 4) m3 ≡ plane 8 (a / 4) (b / 4) (c / 4) (d / 4)
unfolding nibs rep
high_plane a b c d e f he hf =
    ap₂ (λ (x y : ℕ). bit_and (x / 4) m3 + bit_and (y / 4) m3) he hf ∙ ap₂ (λ (x y : ℕ). x + y) (fields_high 16 a b) (fields_high 16 c d)
    ∙ assoc (bit_and (a / 4) (nibs 1 16)) (bit_and (b / 4) (nibs 1 16)) (bit_and (c / 4) (nibs 1 16)) (bit_and (d / 4) (nibs 1 16)) ∙ plane_is 8 (a / 4) (b / 4) (c / 4) (d / 4)

eighth : (x : ℕ) → x / 2 / 4 ≡ x / 8
eighth x = omega arith

pub high_plane_2 : (a b c d e f : ℕ) → e ≡ fields 16 (a / 2) (b / 2) → f ≡ fields 16 (c / 2) (d / 2) → bit_and (e / 4) m3 + bit_and (f / 4) m3 ≡ plane 8 (a / 8) (b / 8) (c / 8) (d / 8)
high_plane_2 a b c d e f he hf =
    high_plane (a / 2) (b / 2) (c / 2) (d / 2) e f he hf ∙ (λ i. plane 8 (eighth a i) (eighth b i) (eighth c i) (eighth d i))
