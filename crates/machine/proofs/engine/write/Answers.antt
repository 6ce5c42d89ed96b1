-- `write` meets its contract. Assumes nothing.
use borrow.Author.Rules.{rules}
use Rattle.machine.proofs.Executing.{written}
use Rattle.machine.proofs.engine.write.Goals as goal

pub returns : goal.returns
returns c = search (written, rules) depth 9
