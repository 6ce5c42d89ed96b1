-- Before turn i the operand is that of comparison i, and the first that fails is sought from i on.
use Rattle.scalars.proofs.Comparisons.{At}
use Rattle.scalars.specs.Value.{low_of}
use Rattle.scalars.proofs.held_in.Given as goal

abbrev pub invariant-loop-i : goal.invariant-loop-i
invariant-loop-i g l = let t = g.T.Operand in At t.width l.unsigned l.condition (low_of t.width l.fn.a) (low_of t.width l.fn.b) l.n (t.value l.operand) l.i
