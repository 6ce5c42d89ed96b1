-- `words_of` meets its contract. Assumes nothing.
use native.Mathlib.Omega.{arith}
use lib.ListN.{length-set}
use Rattle.registers.specs.Parts.{predicates_of}
use Rattle.registers.proofs.PartLaws.{predicates_length, copied_all, words_more}
use Rattle.registers.proofs.parts.words_of.Goals as goal

pub loop-r-preserved : goal.loop-r-preserved
loop-r-preserved c =
    let l = c.loop-r in
    (simp length-set l.invariant.0, l.invariant.1, words_more l.rows c.args.p l.r _ (omega arith) (omega arith) l.invariant.2)

pub returns : goal.returns
returns c =
    let l = c.loop-r in
    copied_all (predicates_of l.rows) c.args.p l.r (omega (arith, predicates_length l.rows)) (omega arith) l.invariant.2
