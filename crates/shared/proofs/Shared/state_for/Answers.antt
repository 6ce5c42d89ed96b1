-- `state_for` meets its contract. Assumes nothing.
use borrow.Author.Rules.{rules}
use Rattle.shared.proofs.Answers.{flagged}
use Rattle.shared.proofs.Shared.state_for.Goals as goal

pub returns : goal.returns
returns c = search (flagged, rules)
