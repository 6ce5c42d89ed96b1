-- `cntp_counter` meets its contract. Assumes nothing.
use Rattle.std.proofs.Common.{arith}
use Rattle.predicates.specs.Predicate.{elements}
use Rattle.predicates.proofs.Live.{elements-le}
use Rattle.instructions.proofs.CounterLaws.{group-le}
use Rattle.instructions.proofs.counter.cntp_counter.Goals as goal

pub count_expanded-requires : goal.count_expanded-requires
count_expanded-requires c =
    let a = c.args in
    omega (arith, c.group-g.ensures, group-le a.four (elements a.vl a.size) (elements-le a.vl a.size))
