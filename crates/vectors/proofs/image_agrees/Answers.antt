-- `image_agrees` meets its contract. Assumes nothing.
use mathlib.Core.Path.{refl}
use lib.ListN.{replicate}
use Rattle.octets.proofs.Bytes.{part_count}
use Rattle.vectors.specs.Records.{Reads}
use Rattle.vectors.proofs.Answers.{reads}
use Rattle.vectors.proofs.image_agrees.Goals as goal
use Rattle.vectors.proofs.image_agrees.Goals.{In-Ok}

-- the reading, where nothing refuses it
read : (c : In-Ok) → Reads c.block.result.now c.read.new.words c.in-Ok.reading
read c = reads _ (replicate 4096 0) _ _ refl c.in-Ok.ensures.value c.in-Ok.ensures.words_after

pub slice_bounds-words-end : goal.slice_bounds-words-end
slice_bounds-words-end c = (read (goal.at.slice_bounds-words-end c).In-Ok).room

pub slice_bounds-image_is-end : goal.slice_bounds-image_is-end
slice_bounds-image_is-end c = part_count _ _ (read (goal.at.slice_bounds-image_is-end c).In-Ok).room

pub returns-then-reply-eq0 : goal.returns-then-reply-eq0
returns-then-reply-eq0 c =
    let r = read (goal.at.returns-then-reply-eq0 c).In-Ok in
    λ h.
    let after = c.image_is.ensures h in
    record { reply = cc; again = λ w. cc }
