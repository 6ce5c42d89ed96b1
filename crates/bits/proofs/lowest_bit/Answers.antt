-- `bits::lowest_bit` meets its contract: the trailing zeros are the first set bit. Assumes nothing.
use Rattle.bits.proofs.Counts.{trailing_first}
use Rattle.bits.proofs.lowest_bit.Goals as goal

pub returns : goal.returns
returns c = rw c.from.ensures (trailing_first 64 c.args.word)
