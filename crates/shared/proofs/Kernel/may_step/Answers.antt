-- `may_step` meets its contract. Assumes nothing.
use borrow.Author.Rules.{rules}
use Rattle.shared.proofs.Naming.{refused_may, ours_may}
use Rattle.shared.proofs.Kernel.may_step.Goals as goal

pub returns-in-Err : goal.returns-in-Err
returns-in-Err c = search (refused_may, rules) depth 9

pub returns-in-Ok : goal.returns-in-Ok
returns-in-Ok c = search (ours_may, rules) depth 9
