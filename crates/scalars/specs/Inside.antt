-- For private functions alone: where the code stops comparing, and how it compares. No public contract cites this.
use Rattle.std.specs.Prelude.{◌≡◌, ℕ, Bool, not, ℤ, Option, Some}
use Rattle.std.specs.declared.cmp.Ordering.{Ordering}
use Rattle.std.specs.Ordering.{int_cmp}
use Rattle.bits.specs.Search.{first_from}

-- how many of n comparisons hold before the first that fails
abbrev pub held_of : (ℕ → Bool) → ℕ → ℕ
held_of held n = first_from (λ e. not (held e)) 0 n

-- an order that is that of the numbers the values stand for
abbrev pub OrderedAs : {A : Type 0} → (A → A → Option Ordering) → (A → ℤ) → Type 0
OrderedAs {A} order number = (a b : A) → order a b ≡ Some (int_cmp (number a) (number b))
