-- `mark_end` meets its contract. Assumes nothing.
use Rattle.std.proofs.Common.{◌^◌, div-le_self, arith, rules}
use Rattle.instructions.proofs.CounterLaws.{length-le, mark_end_is}
use Rattle.instructions.proofs.counter.mark_end.Goals as goal

pub overflow_mul-result : goal.overflow_mul-result
overflow_mul-result c =
    omega (arith, div-le_self c.predicate_length.result (2 ^ c.args.mark), c.predicate_length.ensures, length-le c.args.vl)

pub returns : goal.returns
returns c = search (mark_end_is, rules) depth 9
