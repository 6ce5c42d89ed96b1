-- `may_name` meets its contract. Assumes nothing.
use native.Mathlib.Omega.{arith}
use Rattle.std.proofs.lemmas.Grind.{common_steps}
use Rattle.shared.specs.Ownership.{may_name}
use Rattle.shared.proofs.Kernel.may_name.Goals as goal

pub returns-then-may_name_p-4 : goal.returns-then-may_name_p-4
unfolding may_name
returns-then-may_name_p-4 c = grind (arith, common_steps)

pub returns-else-may_name_p-4 : goal.returns-else-may_name_p-4
unfolding may_name
returns-else-may_name_p-4 c = grind (arith, common_steps)
