-- `image_is` meets its contract. Assumes nothing.
use mathlib.Core.Path.{sym, ◌∙◌}
use Rattle.std.proofs.lemmas.Bool.Decides.{Decides-eqb}
use Rattle.std.proofs.lemmas.Slice.Eq.{slice_eq-Decides}
use Rattle.vectors.proofs.Answers.{written}
use Rattle.vectors.proofs.image_is.Goals as goal

pub returns-in-Ok : goal.returns-in-Ok
returns-in-Ok c =
    λ same.
    sym (written _ _ _ _ _ c.in-Ok.ensures.value c.in-Ok.ensures.image_after) ∙ sym c.first.ensures
    ∙ (slice_eq-Decides Decides-eqb _ _ _ c.eq.ensures).0 same
