-- `held_in` meets its contract. Assumes nothing.
use Rattle.std.proofs.Common.{sym, ◌∙◌}
use Rattle.scalars.proofs.Comparisons.{begin, again, stops, ends, held-count}
use Rattle.scalars.proofs.held_in.Goals as goal

pub loop-i-init : goal.loop-i-init
loop-i-init g c = rw c.of-operand.ensures (begin _ _ _ _ _ _)

pub loop-i-preserved : goal.loop-i-preserved
loop-i-preserved g c =
    again _ _ _ _ _ _ _ _ _ _ _ c.loop-i.invariant c.loop-i-test.true (rw c.of-last.ensures at c.compare.ensures) c.if-not-compare.false c.counts_up-up.ensures c.next-operand.ensures

pub returns-then-not-compare : goal.returns-then-not-compare
returns-then-not-compare g c =
    stops _ _ _ _ _ _ _ _ _ c.loop-i.invariant c.loop-i-test.true (rw c.of-last.ensures at c.compare.ensures) c.if-not-compare.true ∙ sym (held-count _ c.args.n)

pub returns : goal.returns
returns g c = ends _ _ _ _ _ _ _ _ c.loop-i.invariant c.loop-i.auto.i-end c.loop-i-test.false ∙ sym (held-count _ c.args.n)
