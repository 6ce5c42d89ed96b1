-- `pred_test` meets its contract: PredTest over the bits, under the live elements. Assumes nothing.
use mathlib.Core.Bool.{◌&&◌}
use mathlib.Core.Path.{ap, ◌∙◌}
use Rattle.predicates.specs.declared.Predicate.{Predicate}
use Rattle.predicates.specs.PredTest.{nzcv}
use Rattle.predicates.specs.Predicate.{bit_at, pack}
use Rattle.predicates.proofs.Live.{test_live}
use Rattle.predicates.proofs.pred_test.Goals as goal

pub returns : goal.returns
returns c =
    let m = c.args.mask in
    c.test_bits.ensures
    ∙ ap nzcv (test_live c.args.vl c.args.size m _
    (c.and.ensures ∙ ap (λ (q : Predicate). pack (λ b. bit_at m b && bit_at q b)) c.live.ensures) _)
