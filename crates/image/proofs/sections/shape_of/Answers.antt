-- `shape_of` meets its contract: past the last section an empty one. Assumes nothing.
use mathlib.Core.Path.{sym, ap, ◌∙◌}
use Rattle.image.specs.Sections.{shape_of}
use Rattle.image.proofs.SectionLaws.{past_last}
use Rattle.image.proofs.sections.shape_of.Goals as goal

pub returns-in-None : goal.returns-in-None
returns-in-None c = c.fixed.ensures ∙ sym (ap shape_of (past_last c.args.vl c.args.section c.in-None.ensures.lookup.0))
