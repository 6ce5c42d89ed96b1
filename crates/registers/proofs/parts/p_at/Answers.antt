-- `p_at` meets its contract. Assumes nothing.
use mathlib.Core.List.{List}
use mathlib.Core.Path.{ap, ◌∙◌}
use Prim.Native.Nat.{ℕ}
use lib.ListN.{get_or}
use Rattle.predicates.specs.declared.Predicate.{Predicate}
use Rattle.registers.proofs.PartLaws.{read_at}
use Rattle.registers.proofs.parts.p_at.Goals as goal

pub returns : goal.returns
returns c =
    let a = c.args in
    let q : List ℕ → Predicate = λ w. record { words = w } in
    ap q (c.item.ensures ∙ ap (λ (d : Predicate). get_or a.p.now a.r d.words) c.none.ensures) ∙ read_at a.p.now a.r
