-- `after` meets its contract. Assumes nothing.
use borrow.Author.Rules.{rules}
use Rattle.shared.proofs.Answers.{first-after, second_after}
use Rattle.shared.proofs.Shared.after.Goals as goal

pub returns-in-First : goal.returns-in-First
returns-in-First c = search (first-after, rules)

pub returns-in-Second : goal.returns-in-Second
returns-in-Second c = search (second_after, rules)
