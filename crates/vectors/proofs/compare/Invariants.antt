-- `compare` ends: each record takes one byte at least. Assumes nothing.
use lib.ListN.{length}
use Rattle.vectors.proofs.compare.Given as goal

abbrev pub decreases-loop-left : goal.decreases-loop-left
decreases-loop-left g l = length l.left
