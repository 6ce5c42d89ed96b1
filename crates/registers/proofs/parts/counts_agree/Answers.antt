-- `counts_agree` meets its contract: the number joined so far is 0 exactly if the first i registers agree. Assumes nothing.
use mathlib.Core.Bool.{not}
use mathlib.Core.Path.{refl, ap, ◌∙◌}
use Prim.Native.Nat.{ℕ}
use native.Mathlib.Omega.{arith}
use Rattle.bits.specs.Search.{some}
use Rattle.registers.specs.Parts.{predicates_of, counts_from}
use Rattle.registers.proofs.PartLaws.{predicates_length, counts_length, read_in, counts_in_lem, unlike, agree_more}
use Rattle.registers.proofs.parts.counts_agree.Goals as goal

pub loop-i-init : goal.loop-i-init
unfolding some
loop-i-init c = refl

pub loop-i-preserved : goal.loop-i-preserved
loop-i-preserved c =
    let l = c.loop-i in
    let a = c.args in
    let p = a.p.now in
    let k = a.counts.now in
    agree_more a.low (predicates_of p) (counts_from k) l.i l.bad _ _ _ _ (read_in p l.i (omega arith)) (c.counts_in.ensures ∙ counts_in_lem k l.i (omega arith)) c.difference-bad.ensures l.invariant refl

pub returns : goal.returns
returns c =
    let l = c.loop-i in
    let a = c.args in
    let p = a.p.now in
    let k = a.counts.now in
    l.invariant ∙ ap (λ (n : ℕ). not (some (unlike a.low (predicates_of p) (counts_from k)) n)) (omega (arith, predicates_length p, counts_length k))
