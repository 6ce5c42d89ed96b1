-- `may_name_p` meets its contract. Assumes nothing.
use borrow.Author.Rules.{rules}
use Rattle.shared.proofs.Naming.{open_p, ffr_p, first_p, second_p}
use Rattle.shared.proofs.Kernel.may_name_p.Goals as goal

pub returns-then-r-gt16 : goal.returns-then-r-gt16
returns-then-r-gt16 c = search (open_p, rules)

pub returns-then-r-eq16 : goal.returns-then-r-eq16
returns-then-r-eq16 c = search (ffr_p, rules)

pub returns-in-First : goal.returns-in-First
returns-in-First c = search (first_p, rules)

pub returns-in-Second : goal.returns-in-Second
returns-in-Second c = search (second_p, rules)
