-- `count_expanded` meets its contract. Assumes nothing.
use Rattle.std.proofs.Common.{arith}
use Rattle.instructions.proofs.CounterLaws.{none_is, plain_is, inverted_is}
use Rattle.instructions.proofs.counter.count_expanded.Goals as goal

pub returns-then-mark-ge4 : goal.returns-then-mark-ge4
returns-then-mark-ge4 c =
    let a = c.args in
    none_is a.p a.size a.vl a.g _ c.lowest_bit-mark.ensures (omega arith)

pub returns-then-word-eq1 : goal.returns-then-word-eq1
returns-then-word-eq1 c =
    let a = c.args in
    inverted_is a.p a.size a.vl a.g _ _ _ _ _ _ _ _ _ c.starts_below-n.ensures c.starts_below.ensures c.max-larger.ensures c.min.ensures
    c.count_above.ensures c.min-end.ensures c.mark_end.ensures c.shift-k.ensures
    c.lowest_bit-mark.ensures (omega arith) (omega arith) c.if-word-eq1.true

pub returns : goal.returns
returns c =
    let a = c.args in
    plain_is a.p a.size a.vl a.g _ _ _ _ _ _ _ _ c.starts_below-n.ensures c.max-larger.ensures c.min.ensures
    c.count_above.ensures c.min-end.ensures c.mark_end.ensures c.shift-k.ensures
    c.lowest_bit-mark.ensures (omega arith) (omega arith) c.if-word-eq1.false
