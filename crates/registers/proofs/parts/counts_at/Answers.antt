-- `counts_at` meets its contract. Assumes nothing.
use mathlib.Core.Path.{ap, ◌∙◌}
use Rattle.registers.specs.Parts.{counts_as}
use Rattle.registers.proofs.PartLaws.{counts_read}
use Rattle.registers.proofs.parts.counts_at.Goals as goal

pub returns : goal.returns
returns c = c.counts_in.ensures ∙ ap counts_as c.item.ensures ∙ counts_read _ _
