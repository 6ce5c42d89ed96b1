-- `Predicate::is_within` meets its contract: no bit is left when those below the bound are taken away. Assumes nothing.
use mathlib.Core.Bool.{not, ◌&&◌}
use mathlib.Core.Path.{ap, ◌∙◌}
use Rattle.bits.specs.Search.{some}
use Rattle.predicates.specs.declared.Predicate.{Predicate}
use Rattle.predicates.specs.Predicate.{bit_at, pack}
use Rattle.predicates.proofs.ElementBits.{bits_from}
use Rattle.predicates.proofs.Predicate.is_within.Goals as goal

pub returns : goal.returns
returns c =
    c.is_empty.ensures
    ∙ ap (λ (p : Predicate). not (some (bit_at p) 256))
    (c.and_not.ensures ∙ ap (λ (q : Predicate). pack (λ b. bit_at c.args.self b && not (bit_at q b))) c.first.ensures)
    ∙ ap not (bits_from c.args.self c.args.pl)
