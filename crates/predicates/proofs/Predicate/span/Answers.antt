-- `Predicate::span` meets its contract: what lies below its end and not below its start. Assumes nothing.
use mathlib.Core.Bool.{not, ◌&&◌}
use mathlib.Core.Path.{ap₂, ◌∙◌}
use Rattle.bits.specs.Size.{shift}
use Rattle.predicates.specs.declared.Predicate.{Predicate}
use Rattle.predicates.specs.Predicate.{bit_at, pack}
use Rattle.predicates.proofs.ElementBits.{span_minus}
use Rattle.predicates.proofs.Predicate.span.Goals as goal

pub returns : goal.returns
returns c =
    c.and_not.ensures
    ∙ ap₂ (λ (p q : Predicate). pack (λ b. bit_at p b && not (bit_at q b))) c.first-end.ensures c.first.ensures
    ∙ span_minus (shift c.args.size) c.args.from c.args.to
