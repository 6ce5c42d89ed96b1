-- Searches for an element: PNEXT and PFIRST; and PTEST.
use Rattle.std.specs.Prelude.{ℕ, ◌||◌, ◌==◌, nat_eq, nat_lt}
use Rattle.bits.specs.declared.Size.{Size}
use Rattle.bits.specs.declared.Size.TheVariants as Sz
use Rattle.bits.specs.Choice.{pick}
use Rattle.bits.specs.Search.{first_from, after_last}
use Rattle.bits.specs.Size.{shift}
use Rattle.predicates.specs.declared.Predicate.{Predicate}
use Rattle.predicates.specs.Predicate.{bit_at, pack, all_false, active, spread, elements}
use Rattle.predicates.specs.PredTest.{pred_test}
use Rattle.instructions.specs.Effect.{Effect, gives_pf, gives_f}

-- the first active element of Pv above the highest active one of Pdn (the first of all if Pdn has none); E if there is none
abbrev pub next_element : Size → Predicate → Predicate → ℕ → ℕ
next_element size pv pdn vl = first_from (active (shift size) pv) (after_last (active (shift size) pdn) (elements vl size)) (elements vl size)

-- it becomes the only true one; none gives all false
abbrev pub next_result : Size → Predicate → Predicate → ℕ → Predicate
next_result size pv pdn vl =
    let e = next_element size pv pdn vl in
    pick (nat_lt e (elements vl size)) (pack (spread (shift size) (λ i. nat_eq i e))) all_false

unfoldable pub pnext_of : Size → Predicate → Predicate → ℕ → Effect
pnext_of size pv pdn vl =
    let result = next_result size pv pdn vl in
    gives_pf result (pred_test (active (shift size) pv) (active (shift size) result) (elements vl size))

-- the bit of Pg's lowest true byte element is set in Pdn, if there is one, and the rest kept
abbrev pub first_result : Predicate → Predicate → ℕ → Predicate
first_result pg pdn vl =
    let e = first_from (active 0 pg) 0 (elements vl Sz.B) in
    pick (nat_lt e (elements vl Sz.B)) (pack (λ b. bit_at pdn b || b == e)) pdn

unfoldable pub pfirst_of : Predicate → Predicate → ℕ → Effect
pfirst_of pg pdn vl =
    let result = first_result pg pdn vl in
    gives_pf result (pred_test (active 0 pg) (active 0 result) (elements vl Sz.B))

unfoldable pub ptest_of : Predicate → Predicate → ℕ → Effect
ptest_of pg pn vl = gives_f (pred_test (active 0 pg) (active 0 pn) (elements vl Sz.B))
