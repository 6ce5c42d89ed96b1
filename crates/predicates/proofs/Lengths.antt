-- The vector lengths VL = 128 q: PL is 16 q, and the elements fill it. Nothing uses that the number of elements is a power of two. Assumes nothing.
use mathlib.Core.Path.{◌≡◌, sym, ap, ◌∙◌}
use Prim.Native.Nat.{ℕ, ◌-◌, ◌*◌, ◌/◌, ◌^◌, ◌≤◌, ◌<◌}
use native.Mathlib.Decide.{ℕ_discrete}
use native.Mathlib.Nat.{mul_assoc, mul_comm, mul-div_cancel, zero-mul}
use native.Mathlib.Omega.{arith}
use lib.Pow.{pow_pos}
use Rattle.bits.specs.declared.Size.{Size}
use Rattle.bits.specs.Size.{shift}
use Rattle.bits.proofs.Sizes.{shift-lt, power_parts}
use Rattle.predicates.specs.Predicate.{predicate_length, elements}

pub length_quads : (q : ℕ) → q ≤ 16 → predicate_length (128 * q) ≡ 16 * q
unfolding predicate_length
length_quads q h = omega arith

-- E elements have exactly PL bits
pub elements_exact : (q : ℕ) (size : Size) → q ≤ 16 → elements (128 * q) size * 2 ^ shift size ≡ 16 * q
unfolding elements
elements_exact q size h =
    let k = shift size in
    let parts : 16 * q ≡ q * 2 ^ (4 - k) * 2 ^ k =
    mul_comm 16 q ∙ ap (λ (x : ℕ). q * x) (sym (power_parts k 4 (omega (arith, shift-lt size)))) ∙ sym (mul_assoc q (2 ^ (4 - k)) (2 ^ k)) in
    ap (λ (x : ℕ). x / 2 ^ k * 2 ^ k) (length_quads q h ∙ parts) ∙ ap (λ (x : ℕ). x * 2 ^ k) (mul-div_cancel (q * 2 ^ (4 - k)) (pow_pos k)) ∙ sym parts

pub elements_pos : (q : ℕ) (size : Size) → 1 ≤ q → q ≤ 16 → 0 < elements (128 * q) size
elements_pos q size l h = go (elements (128 * q) size) (elements_exact q size h)
  where
    go : (e : ℕ) → e * 2 ^ shift size ≡ 16 * q → 0 < e
    go e s = elim (ℕ_discrete e 0) [ yes z ↦ absurd (none z) | no z ↦ omega arith ]
      where
        none : e ≡ 0 → ⊥
        none z = let w : 0 * 2 ^ shift size ≡ 16 * q = rw z at s in omega (arith, zero-mul (2 ^ shift size))
