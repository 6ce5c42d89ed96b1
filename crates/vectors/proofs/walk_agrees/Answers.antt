-- `walk_agrees` meets its contract. Assumes nothing.
use mathlib.Core.Path.{◌≡◌, ap, ◌∙◌, subst}
use lib.ListN.{take}
use Rattle.std.proofs.lemmas.List.{take-replicate}
use Rattle.image.specs.Reading.{state_of}
use Rattle.vectors.specs.Records.{number_at, past_block, Whole, unset}
use Rattle.vectors.proofs.walk_agrees.Goals as goal

pub returns-in-Some : goal.returns-in-Some
returns-in-Some c =
    let r = c.in-Some.ensures in
    let before : take c.number_at-places.result (unset 512) ≡ unset (number_at 5 4 (past_block c.args.rest.now)) =
    take-replicate _ 512 _ c.if-places-le-PLACES.true ∙ ap unset (c.number_at-places.ensures ∙ ap (number_at 5 4) c.past_block-asked.ensures) in
    λ h.
    record { whole = subst Whole c.block.ensures r.whole; walks = rw (r.state ∙ ap state_of c.block.ensures, c.past_block-asked.ensures, before) at (c.walk_is.ensures h) }
