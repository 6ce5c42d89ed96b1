-- `Comparison::run` meets its contract: no more comparisons hold than are made. Assumes nothing.
use Rattle.std.proofs.Common.{arith}
use Rattle.scalars.specs.Value.{width_of, low_of}
use Rattle.scalars.specs.While.{comparison}
use Rattle.instructions.proofs.WhileLaws.{held-le}
use Rattle.instructions.proofs.whiles.Comparison.run.Goals as goal

pub invariant_of-result : goal.invariant_of-result
invariant_of-result c =
    let w = width_of c.args.wide in
    let s = c.args.self in
    omega (arith, held-le (comparison w s.unsigned s.condition (low_of w s.rn) (low_of w s.rm)) c.args.n, c.held.ensures)
