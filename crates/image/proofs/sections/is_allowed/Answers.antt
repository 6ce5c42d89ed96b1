-- `is_allowed` meets its contract: past the last section an empty one, in which any byte is allowed. Assumes nothing.
use mathlib.Core.Path.{sym, ap}
use Rattle.image.specs.Sections.{Section}
use Rattle.image.proofs.SectionLaws.{past_last}
use Rattle.image.proofs.sections.is_allowed.Goals as goal

pub returns-in-None : goal.returns-in-None
returns-in-None c = sym (ap (λ (s : Section). s.allowed c.args.place c.args.b) (past_last c.args.vl c.args.section c.in-None.ensures.lookup.0))
