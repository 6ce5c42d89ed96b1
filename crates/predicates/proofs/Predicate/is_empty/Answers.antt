-- `Predicate::is_empty` meets its contract: a predicate has no bit exactly if its words, joined by OR, are 0. Assumes nothing.
use borrow.Author.Rules.{rules}
use Rattle.predicates.proofs.WordSearch.{empty_words}
use Rattle.predicates.proofs.Words.{words_of}
use Rattle.predicates.proofs.Predicate.is_empty.Goals as goal

pub returns : goal.returns
returns c = empty_words c.args.self (search (rules, words_of))
