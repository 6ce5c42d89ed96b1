-- `is_legal` meets its contract: where every register is lent, some predicate has a stray bit exactly if their union has one, and then the counts decide. Assumes nothing.
use borrow.Author.Rules.{rules}
use Rattle.registers.proofs.Legality.{all_there, not_all, not_allowed}
use Rattle.registers.proofs.PartLaws.{all_lent, by_strays, by_tallies}
use Rattle.registers.proofs.parts.is_legal.Goals as goal

pub returns-then-not-are_all : goal.returns-then-not-are_all
returns-then-not-are_all c = search (not_all, all_lent, rules) depth 9

pub returns-then-not-settings_allowed : goal.returns-then-not-settings_allowed
returns-then-not-settings_allowed c = search (not_allowed, rules) depth 9

pub returns-then-not-is_within : goal.returns-then-not-is_within
returns-then-not-is_within c = search (by_strays, all_there, all_lent, rules) depth 9

pub returns : goal.returns
returns c = search (by_tallies, all_there, all_lent, rules) depth 9
