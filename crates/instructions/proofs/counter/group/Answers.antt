-- `group` meets its contract. Assumes nothing.
use Rattle.std.proofs.Common.{arith}
use Rattle.predicates.proofs.Live.{elements-le}
use Rattle.instructions.proofs.counter.group.Goals as goal

pub overflow_mul-result : goal.overflow_mul-result
overflow_mul-result c = omega (arith, c.elements-n.ensures, elements-le c.args.vl c.args.size)

pub overflow_mul-result-else-four : goal.overflow_mul-result-else-four
overflow_mul-result-else-four c = omega (arith, c.elements-n.ensures, elements-le c.args.vl c.args.size)
