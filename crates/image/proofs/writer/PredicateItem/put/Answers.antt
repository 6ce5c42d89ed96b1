-- `put` meets its contract: what is left to write is stored over what was. Assumes nothing.
use mathlib.Core.Path.{refl, sym, ◌∙◌}
use native.Mathlib.Omega.{arith}
use Rattle.predicates.specs.Words.{Words}
use Rattle.predicates.proofs.Words.{words_of}
use Rattle.image.proofs.PredicateBytes.{words_start, words_end, lent_turn}
use borrow.Author.Rules.{rules}
use Rattle.image.proofs.writer.PredicateItem.put.Goals as goal
use Rattle.image.proofs.writer.PredicateItem.put.Goals.{Start}

ok : (c : Start) → Words c.args.self
ok c = search (rules, words_of)

pub loop-j-init : goal.loop-j-init
loop-j-init c = words_start _ _ _ refl

pub loop-j-preserved : goal.loop-j-preserved
loop-j-preserved c =
    lent_turn _ _ _ _ c.loop-j.j _ _ (ok (goal.at.loop-j-preserved c).Start) c.loop-j.auto.slice (omega (arith, c.if-n-start.false)) c.min.ensures c.put.ensures ∙ c.loop-j.invariant

pub returns-then-n-start : goal.returns-then-n-start
returns-then-n-start c = sym (words_end _ _ _ c.loop-j.j c.if-n-start.true) ∙ c.loop-j.invariant

pub returns : goal.returns
returns c = sym (words_end _ _ _ c.loop-j.j (omega arith)) ∙ c.loop-j.invariant
