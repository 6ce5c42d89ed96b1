-- `is_allowed` meets its contract. Assumes nothing.
use mathlib.Core.Logic.{inl, inr}
use Rattle.image.specs.Sections.{sections}
use Rattle.image.proofs.sections.Section.is_allowed.Goals as goal

pub returns-in-X : goal.returns-in-X
unfolding sections
returns-in-X c = elim c.in-X.is [ inl e ↦ rw e | inr (inl e) ↦ rw e | inr (inr (inl e)) ↦ rw e | inr (inr (inr e)) ↦ rw e ]
