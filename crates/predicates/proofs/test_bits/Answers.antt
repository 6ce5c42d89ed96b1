use mathlib.Core.Bool.{not}
use mathlib.Core.Path.{ap, ◌∙◌}
use Rattle.bits.specs.Search.{some}
use Rattle.predicates.specs.declared.Predicate.{Predicate}
use Rattle.predicates.specs.PredTest.{nzcv}
use Rattle.predicates.specs.Predicate.{bit_at}
use Rattle.predicates.proofs.Flagging.{tests}
use Rattle.predicates.proofs.test_bits.Goals as goal

pub returns : goal.returns
returns c =
    let m = c.args.mask in
    let r = c.args.res in
    c.nzcv.ensures
    ∙ ap nzcv (tests m r _ _ _ c.at_lowest-n.ensures
    (c.is_empty-z.ensures ∙ ap (λ (p : Predicate). not (some (bit_at p) 256)) c.and.ensures) c.at_highest-c.ensures)
