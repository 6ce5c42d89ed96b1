-- `put` meets its contract. Assumes nothing.
use mathlib.Core.Path.{◌∙◌}
use Rattle.image.proofs.PredicateBytes.{low_bytes}
use Rattle.image.proofs.writer.U64Item.put.Goals as goal

pub returns : goal.returns
returns c = c.copy_from_slice.ensures.after ∙ low_bytes _ _ _ c.requires c.to_le_bytes.ensures
