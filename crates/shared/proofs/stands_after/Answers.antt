-- `stands_after` meets its contract. Assumes nothing.
use mathlib.Core.Path.{sym, ap, ◌∙◌}
use Rattle.shared.specs.Inside.{stands_after}
use Rattle.shared.proofs.Answers.{stands-either, stands-not}
use Rattle.shared.proofs.stands_after.Goals as goal

pub returns-in-Ok : goal.returns-in-Ok
unfolding stands_after
returns-in-Ok c = sym (ap stands_after c.in-Ok.is)

pub returns-in-NotMonotonic : goal.returns-in-NotMonotonic
returns-in-NotMonotonic c = sym (ap stands_after c.in-Err.is ∙ stands-either c.in-Err.refusal c.in-NotMonotonic.is)

pub returns-in_default : goal.returns-in_default
returns-in_default c = sym (ap stands_after c.in-Err.is ∙ stands-not c.in-Err.refusal c.in_default.not-NotMonotonic c.in_default.not-ListTooShort)
