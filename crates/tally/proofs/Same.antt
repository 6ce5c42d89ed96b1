-- When counts are the same, and when the numbers that they are packed in are. Assumes nothing.
use mathlib.Core.Bool.{Bool, true, false, not, ◌&&◌, ◌||◌}
use mathlib.Core.Path.{◌≡◌, refl, sym, ap, ap₂, ◌∙◌}
use Prim.Native.Nat.{ℕ, ◌+◌, ◌*◌, ◌/◌, ◌%◌, ◌^◌, ◌<◌}
use native.Mathlib.Nat.{div-add-mod', mod-eq_of_lt}
use native.Mathlib.Decide.{ℕ_discrete}
use native.Mathlib.Numerals.{add-one}
use native.Mathlib.Omega.{arith}
use lib.Bits.{bit_or, bit_xor, or_add_and, xor_add_and, xor_self, or_zero_r, and_le_l, and_le_r}
use lib.Dec.{eqb}
use lib.Pow.{shr-shr, shr_lt}
use borrow.Author.Tests.{eq-eqb, ne_eqb, eqb-true}
use Rattle.bits.specs.declared.Size.{Size}
use Rattle.bits.specs.declared.Size.TheVariants.{B, H, S, D}
use Rattle.bits.specs.Search.{some}
use Rattle.bits.proofs.Searches.{never}
use Rattle.predicates.specs.declared.Predicate.{Predicate}
use Rattle.tally.specs.declared.Counts.{Counts}
use Rattle.tally.specs.Counts.{true_elements, counts_of, count_at, same_counts}
use Rattle.tally.specs.Tally.{packed, packed_of, counts_in}
use Rattle.tally.proofs.Within.{Small, packed_back}

-- the count at a size is that of the elements of that size
pub count_at_lem : (vl : ℕ) (size : Size) (p : Predicate) → count_at size (counts_of vl p) ≡ true_elements vl size p
unfolding counts_of
count_at_lem vl B p = refl
count_at_lem vl H p = refl
count_at_lem vl S p = refl
count_at_lem vl D p = refl

-- ---- the test is equality

all_four : (a b c d : Bool) → (a && (b && (c && d))) ≡ true → (a ≡ true) × (b ≡ true) × (c ≡ true) × (d ≡ true)
all_four true true true true e = (refl, refl, refl, refl)
all_four true true true false e = never e refl
all_four true true false d e = never e refl
all_four true false c d e = never e refl
all_four false b c d e = never e refl

pub same_is : (c k : Counts) → same_counts c k ≡ true → c ≡ k
unfolding same_counts
same_is c k h =
    let (a, b, e, f) = all_four _ _ _ _ h in
    let pb = eqb-true c.b k.b a in
    let ph = eqb-true c.h k.h b in
    let ps = eqb-true c.s k.s e in
    let pd = eqb-true c.d k.d f in
    λ i. record { b = pb i; h = ph i; s = ps i; d = pd i }

pub is_same : (c k : Counts) → c ≡ k → same_counts c k ≡ true
unfolding same_counts
is_same c k e = rw (eq-eqb c.b k.b (ap (λ (x : Counts). x.b) e), eq-eqb c.h k.h (ap (λ (x : Counts). x.h) e), eq-eqb c.s k.s (ap (λ (x : Counts). x.s) e), eq-eqb c.d k.d (ap (λ (x : Counts). x.d) e))

-- ---- counts that fit are the same exactly if their packed numbers are

unpacked : (c k : Counts) → Small c → Small k → packed_of c ≡ packed_of k → c ≡ k
unpacked c k l m e = sym (packed_back c l) ∙ ap counts_in e ∙ packed_back k m

packed-same : (c k : Counts) → Small c → Small k → eqb (packed_of c) (packed_of k) ≡ same_counts c k
packed-same c k l m =
    elim (ℕ_discrete (packed_of c) (packed_of k)) [
      | yes e ↦ eq-eqb _ _ e ∙ sym (is_same c k (unpacked c k l m e))
      | no n ↦ ne_eqb _ _ n ∙ sym (not-true (same_counts c k) (λ h. n (ap packed_of (same_is c k h))))
    ]
  where
    not-true : (b : Bool) → (b ≡ true → ⊥) → b ≡ false
    not-true true h = absurd (h refl)
    not-true false h = refl

-- a number is what its four fields are packed in
spelled : (x : ℕ) → x < 2 ^ 64 → x ≡ packed_of (counts_in x)
spelled x l =
    let f : x / 4294967296 * 65536 + x / 65536 % 65536 ≡ x / 65536 = rw (← shr-shr x 16 16) (div-add-mod' (x / 65536) 65536) in
    let g : x / 281474976710656 * 65536 + x / 4294967296 % 65536 ≡ x / 4294967296 = rw (← shr-shr x 32 16) (div-add-mod' (x / 4294967296) 65536) in
    linear x (x / 65536) (x / 4294967296) (x / 281474976710656) (x % 65536) (x / 65536 % 65536) (x / 4294967296 % 65536) (x / 281474976710656 % 65536)
    (div-add-mod' x 65536) f g (mod-eq_of_lt (shr_lt 16 48 l))
  where
    linear : (x p q r b h s d : ℕ) → p * 65536 + b ≡ x → q * 65536 + h ≡ p → r * 65536 + s ≡ q → d ≡ r → x ≡ packed b h s d
    linear x p q r b h s d e f g k = omega arith

fields_small : (x : ℕ) → Small (counts_in x)
fields_small x = record { b = at x; h = at (x / 2 ^ 16); s = at (x / 2 ^ 32); d = at (x / 2 ^ 48) }
  where
    at : (y : ℕ) → y % 65536 < 65536
    at y = omega arith

pub packed_test : (x : ℕ) (k : Counts) → x < 2 ^ 64 → Small k → eqb x (packed_of k) ≡ same_counts (counts_in x) k
packed_test x k l m = ap (λ (y : ℕ). eqb y (packed_of k)) (spelled x l) ∙ packed-same (counts_in x) k (fields_small x) m

-- ---- an XOR is 0 exactly if the numbers agree, and numbers joined by OR exactly if each of them is

xor_same : (x y : ℕ) → bit_xor x y ≡ 0 → x ≡ y
xor_same x y e = omega (arith, xor_add_and x y, and_le_l x y, and_le_r x y)

pub xor_test : (x y : ℕ) → eqb (bit_xor x y) 0 ≡ eqb x y
xor_test x y =
    elim (ℕ_discrete x y) [
      | yes e ↦ eq-eqb _ 0 (ap (bit_xor x) (sym e) ∙ xor_self x) ∙ sym (eq-eqb x y e)
      | no n ↦ ne_eqb _ 0 (λ e. n (xor_same x y e)) ∙ sym (ne_eqb x y n)
    ]

or_right : (a b : ℕ) → bit_or a b ≡ 0 → b ≡ 0
or_right a b e = omega (arith, or_add_and a b, and_le_l a b, and_le_r a b)

join : (a x : ℕ) → eqb (bit_or a x) 0 ≡ not (not (eqb x 0) || not (eqb a 0))
join a x =
    elim (ℕ_discrete x 0) [
      | yes e ↦ rw (e, or_zero_r a) (twice (eqb a 0))
      | no n ↦ rw (ne_eqb x 0 n) (ne_eqb _ 0 (λ e. n (or_right a x e)))
    ]
  where
    twice : (b : Bool) → b ≡ not (not b)
    twice true = refl
    twice false = refl

flip : (a b : Bool) → a ≡ not b → not a ≡ b
flip true true e = sym e
flip true false e = refl
flip false true e = refl
flip false false e = sym e

-- one more
pub joined_more : (f : ℕ → Bool) (i a x r : ℕ) → not (eqb x 0) ≡ f i → eqb a 0 ≡ not (some f i) → r ≡ bit_or a x → eqb r 0 ≡ not (some f (i + 1))
unfolding some
joined_more f i a x r h k e = rw (add-one i, e) (join a x ∙ ap₂ (λ (p q : Bool). not (p || q)) h (flip (eqb a 0) (some f i) k))
