-- What a unit becomes. A rule over a range is one test that antt computes over all of it. Assumes nothing.
use mathlib.Core.Bool.{Bool, true, false, not, ◌&&◌}
use mathlib.Core.List.{List, [], ◌∷◌}
use mathlib.Core.Path.{◌≡◌, refl, sym, ap, ap₂, ◌∙◌}
use Prim.Native.Nat.{ℕ, ◌+◌, ◌-◌, ◌≤◌, ◌<◌, max}
use native.Mathlib.Decide.{dec_lt}
use native.Mathlib.Omega.{arith}
use lib.Dec.{leb, eqb}
use lib.ListN.{get_or}
use borrow.Author.Tests.{le-leb, lt-leb, eqb-true}
use Rattle.bits.specs.Choice.{pick}
use Rattle.bits.specs.Search.{some}
use Rattle.bits.proofs.Searches.{some-none}
use Rattle.fold.specs.Table.{Row, within, rows, letter_in, fold_unit}

-- two rules that differ at none of the numbers below n agree at each of them
alike : (f g : ℕ → ℕ) (n : ℕ) → some (λ k. not (eqb (f k) (g k))) n ≡ false → (k : ℕ) → k < n → f k ≡ g k
alike f g n e k h = eqb-true (f k) (g k) (not-false (eqb (f k) (g k)) (some-none (λ k. not (eqb (f k) (g k))) n e k h))
  where
    not-false : (b : Bool) → not b ≡ false → b ≡ true
    not-false true e = refl
    not-false false e = sym e

-- ---- by range

pub below_a : (u : ℕ) → u < 65 → u ≡ fold_unit u
unfolding some fold_unit
below_a u h = alike (λ u. u) fold_unit 65 refl u h

pub capital : (u : ℕ) → 65 ≤ u → u ≤ 90 → u + 32 ≡ fold_unit u
unfolding fold_unit
capital u h l = sym (ap₂ (λ (a b : Bool). pick (a && b) (u + 32) (letter_in rows u)) (le-leb 65 u h) (le-leb u 90 l))

pub above_z : (u : ℕ) → 90 < u → u < 192 → u ≡ fold_unit u
unfolding some fold_unit
above_z u h l =
    let same : 91 + (u - 91) ≡ u = omega arith in
    sym same ∙ alike (λ k. 91 + k) (λ k. fold_unit (91 + k)) 101 refl (u - 91) (omega arith) ∙ ap fold_unit same

-- C0 to FF, by a list with a place for each
pub lettered : (letters : List ℕ) → some (λ k. not (eqb (get_or letters k 0) (fold_unit (192 + k)))) 64 ≡ false
    → (u i : ℕ) → i ≡ u - 192 → 192 ≤ u → u ≤ 255 → get_or letters i 0 ≡ fold_unit u
lettered letters e u i at h l =
    let same : 192 + i ≡ u = omega arith in
    alike (λ k. get_or letters k 0) (λ k. fold_unit (192 + k)) 64 e i (omega arith) ∙ ap fold_unit same

-- the last unit that a row has
abbrev end : List Row → ℕ
end [] = 0
end (r ∷ rs) = max r.last (end rs)

past-rows : (rs : List Row) (u : ℕ) → end rs < u → letter_in rs u ≡ u
past-rows [] u h = refl
past-rows (r ∷ rs) u h =
    let no : within r.first r.last u ≡ false = ap (λ (b : Bool). leb r.first u && b) (lt-leb u r.last (omega arith)) ∙ and-false (leb r.first u) in
    ap (λ (b : Bool). pick b r.letter (letter_in rs u)) no ∙ past-rows rs u (omega arith)
  where
    and-false : (a : Bool) → (a && false) ≡ false
    and-false true = refl
    and-false false = refl

pub past_latin : (u : ℕ) → 255 < u → u ≡ fold_unit u
unfolding fold_unit
past_latin u h = sym (ap₂ (λ (a b : Bool). pick (a && b) (u + 32) (letter_in rows u)) (le-leb 65 u (omega arith)) (lt-leb u 90 (omega arith)) ∙ past-rows rows u h)

-- ---- and so

-- what is folded stays
pub unit_twice : (u : ℕ) → fold_unit (fold_unit u) ≡ fold_unit u
unfolding some fold_unit
unit_twice u =
    elim (dec_lt u 256) [
      | yes h ↦ alike (λ u. fold_unit (fold_unit u)) fold_unit 256 refl u h
      | no h ↦ ap fold_unit (sym (past_latin u (omega arith)))
    ]
