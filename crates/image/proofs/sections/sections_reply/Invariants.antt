-- `sections_reply` meets its contract: the reply is that of the sections that are left. Assumes nothing.
use mathlib.Core.Path.{◌≡◌}
use lib.ListN.{drop}
use Rattle.image.specs.Sections.{sections, sections_reply}
use Rattle.image.proofs.sections.sections_reply.Given as goal

abbrev pub invariant-loop-section : goal.invariant-loop-section
invariant-loop-section l = sections_reply (drop l.section-index (sections l.vl)) l.rest ≡ sections_reply (sections l.vl) l.image
