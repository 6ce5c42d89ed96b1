-- `count_of` meets its contract. Assumes nothing.
use native.Mathlib.Omega.{arith}
use Rattle.image.proofs.SectionLaws.{count-lt}
use Rattle.image.proofs.sections.count_of.Goals as goal

pub returns-clause-upper_bound : goal.returns-clause-upper_bound
returns-clause-upper_bound c = omega (arith, c.number_at.ensures, count-lt c.args.rest.now c.type_inv.rest)
