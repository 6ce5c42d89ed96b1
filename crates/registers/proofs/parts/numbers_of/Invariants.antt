-- `numbers_of` meets its contract. Assumes nothing.
use mathlib.Core.Path.{◌≡◌}
use lib.ListN.{length, take}
use Rattle.registers.specs.Parts.{counts_from}
use Rattle.registers.proofs.parts.numbers_of.Given as goal

abbrev pub invariant-loop-r : goal.invariant-loop-r
invariant-loop-r l = (length l.rows ≡ 16) × (length l.counts ≡ 16) × (take l.r (counts_from l.rows) ≡ take l.r l.counts)
