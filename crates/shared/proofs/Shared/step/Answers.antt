-- `step` meets its contract. Assumes nothing.
use borrow.Author.Rules.{rules}
use Rattle.shared.proofs.Answers.{step-barred, step_taken}
use Rattle.shared.proofs.Shared.step.Goals as goal

pub returns-then-not-may_step : goal.returns-then-not-may_step
returns-then-not-may_step c = search (step-barred, rules) depth 9

pub returns : goal.returns
returns c = search (step_taken, rules) depth 9
