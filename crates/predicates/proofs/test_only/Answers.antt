-- `test_only` meets its contract. Assumes nothing.
use mathlib.Core.Bool.{true, not}
use mathlib.Core.Path.{◌≡◌, refl, sym, ap, ◌∙◌}
use Prim.Native.Nat.{ℕ, ◌+◌, ◌<◌}
use native.Mathlib.Omega.{arith}
use lib.Dec.{eqb}
use borrow.Author.Rules.{rules}
use Rattle.predicates.specs.PredTest.{nzcv}
use Rattle.predicates.specs.Predicate.{bit_at}
use Rattle.predicates.proofs.Flagging.{flags_are, only-tests, other-tests}
use Rattle.predicates.proofs.Words.{words_of, bit_below}
use Rattle.predicates.proofs.test_only.Goals as goal
use Rattle.predicates.proofs.test_only.Goals.{Else-not-bit}

-- where the mask has the bit
has : (c : Else-not-bit) → bit_at c.args.mask c.args.b ≡ true
has c = sym c.bit.ensures ∙ c.if-not-bit.false

below : (c : Else-not-bit) → c.args.b < 256
below c = bit_below c.args.mask (search (rules, words_of)) _ (has c)

pub returns-then-not-bit : goal.returns-then-not-bit
returns-then-not-bit c =
    let a = c.args in
    c.nzcv.ensures ∙ ap nzcv (other-tests (bit_at a.mask) a.b 256 (sym c.bit.ensures ∙ c.if-not-bit.true))

pub overflow_add-b : goal.overflow_add-b
overflow_add-b c = omega (arith, below (goal.at.overflow_add-b c).Else-not-bit)

pub returns : goal.returns
returns c =
    let a = c.args in
    c.nzcv-2.ensures
    ∙ ap nzcv (flags_are (ap (λ (x : ℕ). eqb x a.b) c.lowest.ensures) refl (ap (λ (x : ℕ). not (eqb x (a.b + 1))) c.after_highest.ensures)
    ∙ only-tests (bit_at a.mask) a.b (below (goal.at.returns c).Else-not-bit) (has (goal.at.returns c).Else-not-bit))
