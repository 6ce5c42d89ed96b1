-- `first` meets its contract. Assumes nothing.
use Rattle.std.proofs.Common.{◌&&◌, ap, ◌∙◌}
use Rattle.predicates.specs.declared.Predicate.{Predicate}
use Rattle.predicates.specs.Predicate.{bit_at, pack}
use Rattle.instructions.proofs.SearchLaws.{first-set, first_kept}
use Rattle.instructions.proofs.searches.first.Goals as goal

pub returns-then-e-lt256 : goal.returns-then-e-lt256
returns-then-e-lt256 c =
    c.or.ensures
    ∙ first-set c.args.vl c.args.pg c.args.pdn _
    (c.and.ensures ∙ ap (λ (q : Predicate). pack (λ b. bit_at c.args.pg b && bit_at q b)) c.live.ensures)
    _ c.lowest-e.ensures c.if-e-lt256.true _ c.only.ensures

pub returns : goal.returns
returns c =
    first_kept c.args.vl c.args.pg c.args.pdn _
    (c.and.ensures ∙ ap (λ (q : Predicate). pack (λ b. bit_at c.args.pg b && bit_at q b)) c.live.ensures)
    _ c.lowest-e.ensures c.if-e-lt256.false
