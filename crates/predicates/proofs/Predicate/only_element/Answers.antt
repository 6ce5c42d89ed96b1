-- `Predicate::only_element` meets its contract. Assumes nothing.
use mathlib.Core.Path.{ap, ◌∙◌}
use Prim.Native.Nat.{ℕ, ◌*◌, ◌^◌, ◌%◌}
use native.Mathlib.Omega.{arith}
use lib.Dec.{eqb}
use Rattle.bits.specs.Size.{shift}
use Rattle.bits.proofs.Sizes.{shift-lt, shifted}
use Rattle.predicates.specs.Predicate.{pack}
use Rattle.predicates.proofs.Live.{only_element, no_element}
use Rattle.predicates.proofs.Predicate.only_element.Goals as goal

pub returns-then-e-ge256 : goal.returns-then-e-ge256
returns-then-e-ge256 c = c.none.ensures ∙ no_element (shift c.args.size) c.args.e c.if-e-ge256.true

pub returns : goal.returns
returns c =
    let k = shift c.args.size in
    let e = c.args.e in
    c.only.ensures
    ∙ ap (λ (x : ℕ). pack (λ b. eqb b x)) (ap (λ (x : ℕ). (e * 2 ^ x) % 2 ^ 64) c.shift.ensures ∙ shifted e k (omega arith) (shift-lt c.args.size))
    ∙ only_element k e
