-- `step` meets its contract. Assumes nothing.
use borrow.Author.Rules.{rules}
use Rattle.machine.proofs.Steps.{in_illegal, in_goes}
use Rattle.machine.proofs.engine.step.Goals as goal

pub returns-then-not-is_legal : goal.returns-then-not-is_legal
returns-then-not-is_legal c = search (in_illegal, rules) depth 9

pub returns : goal.returns
returns c = search (in_goes, rules) depth 9
