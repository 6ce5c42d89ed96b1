-- `State::with_flags` meets its contract. Assumes nothing.
use mathlib.Core.Path.{refl}
use Rattle.registers.specs.State.{with_flags}
use Rattle.registers.proofs.State.with_flags.Goals as goal

pub returns : goal.returns
unfolding with_flags
returns c = refl
