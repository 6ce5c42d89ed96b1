-- `bits::bit_length` meets its contract: the leading zeros and the highest set bit make 64. Assumes nothing.
use borrow.Author.Rules.{rules}
use Rattle.bits.proofs.Counts.{leading_last}
use Rattle.bits.proofs.bit_length.Goals as goal

pub returns : goal.returns
returns c = rw c.from.ensures (leading_last 64 c.args.word (search rules))
