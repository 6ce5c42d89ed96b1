-- `step` meets its contract. Assumes nothing.
use borrow.Author.Rules.{rules}
use Rattle.machine.proofs.Steps.{parts_refused}
use Rattle.machine.proofs.Machine.step.Goals as goal

pub returns-in-Err : goal.returns-in-Err
returns-in-Err c = search (parts_refused, c.in-Err.is, rules) depth 9
