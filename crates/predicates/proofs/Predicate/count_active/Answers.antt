-- `Predicate::count_active` meets its contract: the ones of the words under the live elements. Assumes nothing.
use mathlib.Core.Bool.{◌&&◌}
use mathlib.Core.Path.{ap, ◌∙◌}
use Rattle.predicates.specs.declared.Predicate.{Predicate}
use Rattle.predicates.specs.Predicate.{bit_at, pack}
use Rattle.predicates.proofs.Live.{count-live}
use Rattle.predicates.proofs.Predicate.count_active.Goals as goal

pub returns : goal.returns
returns c =
    let p = c.args.self in
    c.count.ensures
    ∙ count-live c.args.vl c.args.size p _
    (c.and.ensures ∙ ap (λ (q : Predicate). pack (λ b. bit_at p b && bit_at q b)) c.live.ensures)
