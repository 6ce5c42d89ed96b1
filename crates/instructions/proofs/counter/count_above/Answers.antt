-- `count_above` meets its contract. Assumes nothing.
use Rattle.std.proofs.Common.{arith, pow_pos, rules}
use Rattle.instructions.proofs.CounterLaws.{length-le, length_small, one_moved, above_is}
use Rattle.instructions.proofs.counter.count_above.Goals as goal

pub overflow_mul-predicate_length : goal.overflow_mul-predicate_length
overflow_mul-predicate_length c = omega (arith, c.predicate_length.ensures, length-le c.args.vl)

pub overflow_shl-result : goal.overflow_shl-result
overflow_shl-result c = omega (arith, length_small _ _ _ _ c.bit_length-length.ensures c.predicate_length.ensures (omega arith))

pub nonzero_rem-result : goal.nonzero_rem-result
nonzero_rem-result c =
    omega (
      arith,
      pow_pos c.bit_length-length.result,
      one_moved c.bit_length-length.result
          (length_small _ _ _ _ c.bit_length-length.ensures c.predicate_length.ensures (omega arith)),
    )

pub returns : goal.returns
returns c = search (above_is, rules) depth 9
