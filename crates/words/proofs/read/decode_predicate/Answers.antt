-- `words::read::decode_predicate` meets its contract: as `decode`, for the forms on predicates alone.
use Rattle.words.proofs.Reading.{reading}
use Rattle.words.proofs.read.decode_predicate.Goals as goal

pub returns-then-has_bits : goal.returns-then-has_bits
returns-then-has_bits c = search reading depth 9

pub returns-then-has_bits-2 : goal.returns-then-has_bits-2
returns-then-has_bits-2 c = search reading depth 9

pub returns-then-has_bits-3 : goal.returns-then-has_bits-3
returns-then-has_bits-3 c = search reading depth 9

pub returns-then-has_bits-4 : goal.returns-then-has_bits-4
returns-then-has_bits-4 c = search reading depth 9

pub returns-then-is_logic : goal.returns-then-is_logic
returns-then-is_logic c = search reading depth 9

pub returns : goal.returns
returns c = search reading depth 9
