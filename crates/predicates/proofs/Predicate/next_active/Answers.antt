-- `Predicate::next_active` meets its contract: it finds the first that is looked at, or what is found after it. Assumes nothing.
use mathlib.Core.Path.{sym, ◌∙◌}
use Rattle.bits.proofs.Searches.{first_end, first_hit, first_miss}
use Rattle.predicates.proofs.Predicate.next_active.Goals as goal

pub returns-then-elements-start : goal.returns-then-elements-start
returns-then-elements-start c = sym (first_end _ _ _ c.if-elements-start.true)

pub returns-then-is_active : goal.returns-then-is_active
returns-then-is_active c = sym (first_hit _ _ _ c.if-elements-start.false (sym c.is_active.ensures ∙ c.if-is_active.true))

pub returns : goal.returns
returns c =
    c.next_after.ensures
    ∙ sym (first_miss _ _ _ c.if-elements-start.false (sym c.is_active.ensures ∙ c.if-is_active.false))
