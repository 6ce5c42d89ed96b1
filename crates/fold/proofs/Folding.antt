-- Units folded one after the other. Assumes nothing.
use mathlib.Core.Bool.{Bool}
use mathlib.Core.List.{List, map}
use mathlib.Core.Path.{◌≡◌, refl, sym, ap, ◌∙◌}
use Prim.Native.Nat.{ℕ, zero, suc, ◌+◌, ◌≤◌, ◌<◌}
use native.Mathlib.Decide.{dec_lt, ℕ_discrete}
use native.Mathlib.Omega.{arith}
use native.Mathlib.Numerals.{add-one}
use lib.Dec.{ltb}
use lib.ListN.{length, get_or, take, length-set, length-map, get_or-map}
use lib.Seq.{ext_get_or, get_or-set_same, get_or-set_other, get_or-take, length-take-le}
use borrow.Author.Tests.{lt-ltb, le-ltb}
use Rattle.bits.specs.Choice.{pick}
use Rattle.fold.specs.Table.{fold_unit}
use Rattle.fold.specs.Fold.{folded_one, folded_first}
use Rattle.fold.proofs.Units.{below_a}

-- ---- the loop

pub none_folded : (positions t : List ℕ) → t ≡ folded_first positions 0 t
unfolding folded_first
none_folded positions t = refl

-- the loop's invariant: the units at the first i positions are folded
abbrev pub Folded : List ℕ → List ℕ → List ℕ → ℕ → Type 0
Folded positions t₀ t i = (i ≤ length positions) × ((t ≡ folded_first positions i t₀) × (length t ≡ length t₀))

pub one_folded : (positions t₀ t u : List ℕ) (i : ℕ) → Folded positions t₀ t i → i < length positions → u ≡ folded_one (get_or positions i 0) t → length u ≡ length t → Folded positions t₀ u (i + 1)
unfolding folded_first
one_folded positions t₀ t u i h l e k = (omega arith, (rw add-one (e ∙ ap (folded_one (get_or positions i 0)) h.1.0), k ∙ h.1.1))

-- ---- the title after it

-- positions that begin alike fold alike
pub first_alike : (p q t : List ℕ) (n : ℕ) → ((i : ℕ) → i < n → get_or p i 0 ≡ get_or q i 0) → folded_first p n t ≡ folded_first q n t
unfolding folded_first
first_alike p q t zero h = refl
first_alike p q t (suc n) h =
    ap (λ (at : ℕ). folded_one at (folded_first p n t)) (h n (omega arith))
    ∙ ap (folded_one (get_or q n 0)) (first_alike p q t n (λ i k. h i (omega arith)))

-- a part of a list from its first place on, and as many positions of the list
pub first_part : (p t : List ℕ) (n : ℕ) → n ≤ length p → folded_first (take n p) (length (take n p)) t ≡ folded_first p n t
first_part p t n h = ap (λ (k : ℕ). folded_first (take n p) k t) (length-take-le n p h) ∙ first_alike (take n p) p t n (λ i k. get_or-take n p i 0 k)

pub folded_length : (p t : List ℕ) (n : ℕ) → length (folded_first p n t) ≡ length t
unfolding folded_first
folded_length p t zero = refl
folded_length p t (suc n) = length-set (folded_first p n t) (get_or p n 0) _ ∙ folded_length p t n

module _ (p t : List ℕ) where
  -- unit i after the first n positions, if these are 0, 1, .., n - 1
  abbrev Unit : ℕ → ℕ → Type 0
  Unit n i = get_or (folded_first p n t) i 0 ≡ pick (ltb i n) (fold_unit (get_or t i 0)) (get_or t i 0)

  one_more : (n : ℕ) → n < length t → get_or p n 0 ≡ n → ((i : ℕ) → Unit n i) → (i : ℕ) → Unit (suc n) i
  unfolding folded_first
  one_more n h e at i =
      ap (λ (j : ℕ). get_or (folded_one j before) i 0) e
      ∙ elim (ℕ_discrete i n) [
        | yes q ↦
            ap (λ (j : ℕ). get_or (folded_one n before) j 0) q
            ∙ get_or-set_same before n (fold_unit (get_or before n 0)) 0 (omega (arith, folded_length p t n))
            ∙ ap fold_unit (at n ∙ ap (λ (b : Bool). pick b (fold_unit (get_or t n 0)) (get_or t n 0)) (le-ltb n n (omega arith)))
            ∙ ap (λ (j : ℕ). fold_unit (get_or t j 0)) (sym q)
            ∙ ap (λ (b : Bool). pick b (fold_unit (get_or t i 0)) (get_or t i 0)) (sym (lt-ltb i (suc n) (omega (arith, q))))
        | no q ↦ get_or-set_other before n i (fold_unit (get_or before n 0)) 0 q ∙ at i ∙ ap (λ (b : Bool). pick b (fold_unit (get_or t i 0)) (get_or t i 0)) (same q)
      ]
    where
      before : List ℕ
      before = folded_first p n t

      same : (i ≡ n → ⊥) → ltb i n ≡ ltb i (suc n)
      same q = elim (dec_lt i n) [
        | yes l ↦ lt-ltb i n l ∙ sym (lt-ltb i (suc n) (omega arith))
        | no l ↦ le-ltb i n (omega arith) ∙ sym (le-ltb i (suc n) (omega arith))
      ]

  -- by positions 0, 1, .., n - 1 the first n units are folded, and each other unit is as it was
  pub folded_at : (n : ℕ) → n ≤ length t → ((i : ℕ) → i < n → get_or p i 0 ≡ i) → (i : ℕ) → Unit n i
  unfolding folded_first
  folded_at zero h e i = ap (λ (b : Bool). pick b (fold_unit (get_or t i 0)) (get_or t i 0)) (sym (le-ltb i 0 (omega arith)))
  folded_at (suc n) h e i = one_more n h (e n (omega arith)) (folded_at n (omega arith) (λ i k. e i (omega arith))) i

  -- and by as many as there are units each is
  pub all_units : ((i : ℕ) → i < length t → get_or p i 0 ≡ i) → folded_first p (length t) t ≡ map fold_unit t
  all_units e = ext_get_or 0 _ _ (folded_length p t (length t) ∙ sym (length-map t fold_unit)) at
    where
      at : (i : ℕ) → i < length (folded_first p (length t) t) → get_or (folded_first p (length t) t) i 0 ≡ get_or (map fold_unit t) i 0
      at i k =
          let below : i < length t = omega (arith, folded_length p t (length t)) in
          folded_at (length t) (omega arith) e i
          ∙ ap (λ (b : Bool). pick b (fold_unit (get_or t i 0)) (get_or t i 0)) (lt-ltb i (length t) below)
          ∙ sym (ap (get_or (map fold_unit t) i) (below_a 0 (omega arith)) ∙ get_or-map fold_unit t i 0)
