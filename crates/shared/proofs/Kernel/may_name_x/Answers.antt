-- `may_name_x` meets its contract. Assumes nothing.
use borrow.Author.Rules.{rules}
use Rattle.shared.proofs.Naming.{open_x, first_x, second_x}
use Rattle.shared.proofs.Kernel.may_name_x.Goals as goal

pub returns-then-r-gt30 : goal.returns-then-r-gt30
returns-then-r-gt30 c = search (open_x, rules)

pub returns-in-First : goal.returns-in-First
returns-in-First c = search (first_x, rules)

pub returns-in-Second : goal.returns-in-Second
returns-in-Second c = search (second_x, rules)
