-- `State::is_legal` meets its contract: its parts make the state again. Assumes nothing.
use mathlib.Core.List.{[], ◌∷◌}
use mathlib.Core.Path.{refl, ap, ◌∙◌}
use Rattle.registers.specs.Legal.{legal}
use Rattle.registers.proofs.PartLaws.{parts_are}
use Rattle.registers.proofs.State.is_legal.Goals as goal

pub returns : goal.returns
returns c =
    let s = c.args.self in
    let f = s.flags in
    c.is_legal.ensures (f.n ∷ f.z ∷ f.c ∷ f.v ∷ []) ∙ ap legal (parts_are s _ _ _ _ c.settings.ensures refl c.words_of-p.ensures c.numbers_of-counts.ensures)
