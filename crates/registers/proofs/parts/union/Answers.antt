-- `union` meets its contract: q is the union of the predicates so far. Assumes nothing.
use mathlib.Core.Path.{ap, ◌∙◌}
use native.Mathlib.Omega.{arith}
use Rattle.registers.proofs.Legality.{union_of, union-none, union_more}
use Rattle.registers.proofs.PartLaws.{predicates_length, read_in}
use Rattle.registers.specs.Parts.{predicates_of}
use Rattle.registers.proofs.parts.union.Goals as goal

pub loop-words-init : goal.loop-words-init
loop-words-init c = c.none-q.ensures ∙ union-none (predicates_of c.args.p.now)

pub loop-words-preserved : goal.loop-words-preserved
loop-words-preserved c =
    let l = c.loop-words in
    let p = c.args.p.now in
    union_more (predicates_of p) l.words-index _ _ _ (read_in p l.words-index (omega arith)) l.invariant c.or-q.ensures

pub returns : goal.returns
returns c =
    let p = c.args.p.now in
    c.loop-words.invariant ∙ ap (union_of (predicates_of p)) (omega (arith, predicates_length p))
