-- `words::read::decode` meets its contract: each answer is one step of the search for the first form that the word is of.
use Rattle.words.proofs.Reading.{reading}
use Rattle.words.proofs.read.decode.Goals as goal

pub returns-then-has_bits : goal.returns-then-has_bits
returns-then-has_bits c = search reading depth 9

pub returns-then-has_bits-2 : goal.returns-then-has_bits-2
returns-then-has_bits-2 c = search reading depth 9

pub returns-then-has_bits-3 : goal.returns-then-has_bits-3
returns-then-has_bits-3 c = search reading depth 9

pub returns : goal.returns
returns c = search reading depth 9
