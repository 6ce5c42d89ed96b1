-- `union` meets its contract: q is the union of the predicates so far. Assumes nothing.
use mathlib.Core.Path.{◌≡◌}
use Rattle.registers.proofs.Legality.{union_of}
use Rattle.registers.specs.Parts.{predicates_of}
use Rattle.registers.proofs.parts.union.Given as goal

abbrev pub invariant-loop-words : goal.invariant-loop-words
invariant-loop-words l = l.q ≡ union_of (predicates_of l.p) l.words-index
