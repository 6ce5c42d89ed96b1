-- `may_walk` meets its contract. Assumes nothing.
use native.Mathlib.Omega.{arith}
use Rattle.std.proofs.lemmas.Grind.{common_steps}
use Rattle.shared.specs.Ownership.{may_walk}
use Rattle.shared.proofs.Kernel.may_walk.Goals as goal

pub returns-then-may_name_p : goal.returns-then-may_name_p
unfolding may_walk
returns-then-may_name_p c = grind (arith, common_steps)

pub returns-else-may_name_p : goal.returns-else-may_name_p
unfolding may_walk
returns-else-may_name_p c = grind (arith, common_steps)
