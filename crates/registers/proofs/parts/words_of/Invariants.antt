-- `words_of` meets its contract. Assumes nothing.
use mathlib.Core.Path.{◌≡◌}
use lib.ListN.{length, take}
use Rattle.registers.specs.Parts.{predicates_of}
use Rattle.registers.proofs.parts.words_of.Given as goal

abbrev pub invariant-loop-r : goal.invariant-loop-r
invariant-loop-r l = (length l.rows ≡ 17) × (length l.p ≡ 17) × (take l.r (predicates_of l.rows) ≡ take l.r l.p)
