-- `State::with_x` meets its contract. Assumes nothing.
use Rattle.registers.specs.State.{with_x}
use Rattle.registers.proofs.State.with_x.Goals as goal

pub returns : goal.returns
unfolding with_x
returns c = cc
