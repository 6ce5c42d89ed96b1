-- `counts_agree` meets its contract: the number joined so far is 0 exactly if the first i registers agree. Assumes nothing.
use mathlib.Core.Bool.{not}
use mathlib.Core.Path.{◌≡◌}
use lib.Dec.{eqb}
use Rattle.bits.specs.Search.{some}
use Rattle.registers.specs.Parts.{predicates_of, counts_from}
use Rattle.registers.proofs.PartLaws.{unlike}
use Rattle.registers.proofs.parts.counts_agree.Given as goal

abbrev pub invariant-loop-i : goal.invariant-loop-i
invariant-loop-i l = eqb l.bad 0 ≡ not (some (unlike l.low (predicates_of l.p) (counts_from l.counts)) l.i)
