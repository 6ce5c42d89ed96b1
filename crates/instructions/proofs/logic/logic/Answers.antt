-- `logic` meets its contract. Assumes nothing.
use borrow.Author.Rules.{rules}
use Rattle.predicates.specs.PredTest.{nzcv}
use Rattle.instructions.proofs.LogicLaws.{flags_kept, flags_set}
use Rattle.instructions.proofs.logic.logic.Goals as goal

pub returns-then-not-flags : goal.returns-then-not-flags
unfolding nzcv
returns-then-not-flags c = flags_kept c.args.operation c.args.flags c.args.pg c.args.pn c.args.pm _ c.args.vl _ (search rules) c.result-q.ensures c.predicate.ensures

pub returns : goal.returns
returns c = search (flags_set, rules) depth 9
