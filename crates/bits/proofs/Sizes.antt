-- Laws of the sizes, and of elements of 2 ^ k bits in words of 64. Assumes nothing.
use mathlib.Core.Path.{◌≡◌, sym, ap, ◌∙◌}
use Prim.Native.Nat.{ℕ, ◌+◌, ◌-◌, ◌*◌, ◌/◌, ◌%◌, ◌^◌, ◌≤◌, ◌<◌}
use native.Mathlib.Nat.{one-mul, mul_assoc, mul-add-mod_self_right}
use native.Mathlib.Omega.{arith}
use lib.Dec.{eqb}
use lib.Pow.{pow-add, pow_mono, shl_exact}
use Rattle.bits.specs.declared.Size.{Size}
use Rattle.bits.specs.declared.Size.TheVariants.{B, H, S, D}
use Rattle.bits.specs.Bits.{element_bit}
use Rattle.bits.specs.Size.{shift}

pub shift-lt : (size : Size) → shift size < 4
shift-lt B = omega arith
shift-lt H = omega arith
shift-lt S = omega arith
shift-lt D = omega arith

-- 2 ^ k goes into 2 ^ n
pub power_parts : (k n : ℕ) → k ≤ n → 2 ^ (n - k) * 2 ^ k ≡ 2 ^ n
power_parts k n h = let e : n - k + k ≡ n = omega arith in sym (pow-add 2 (n - k) k) ∙ ap (λ (x : ℕ). 2 ^ x) e

-- a word starts at a multiple of 64, where the pattern of element bits begins anew
pub element_again : (k at i : ℕ) → k < 4 → at % 64 ≡ 0 → element_bit k (at + i) ≡ element_bit k i
unfolding element_bit
element_again k at i h e =
    let whole : at ≡ at / 64 * 2 ^ (6 - k) * 2 ^ k =
    sym (mul_assoc (at / 64) (2 ^ (6 - k)) (2 ^ k) ∙ ap (λ (x : ℕ). at / 64 * x) (power_parts k 6 (omega arith)) ∙ omega arith) in
    ap (λ (x : ℕ). eqb ((x + i) % 2 ^ k) 0) whole ∙ ap (λ (x : ℕ). eqb x 0) (mul-add-mod_self_right (at / 64 * 2 ^ (6 - k)) (2 ^ k) i)

-- a shift left by a size loses nothing of a number up to 256
pub shifted : (n k : ℕ) → n ≤ 256 → k < 4 → (n * 2 ^ k) % 2 ^ 64 ≡ n * 2 ^ k
shifted n k h l = shl_exact 9 k 64 (omega arith) (omega arith)

pub one_shifted : (k : ℕ) → k < 4 → (1 * 2 ^ k) % 2 ^ 64 ≡ 2 ^ k
one_shifted k l = shifted 1 k (omega arith) l ∙ one-mul (2 ^ k)

pub power_le : (k : ℕ) → k < 4 → 2 ^ k ≤ 8
power_le k l = pow_mono {i = k} {j = 3} (omega arith)
