-- `bits::ones` meets its contract: the processor's count of ones is the count of the bits that are set. Assumes nothing.
use borrow.Author.Rules.{rules}
use Rattle.bits.proofs.Counts.{ones-count}
use Rattle.bits.proofs.ones.Goals as goal

pub returns : goal.returns
returns c = rw c.from.ensures (ones-count 64 c.args.word (search rules))
