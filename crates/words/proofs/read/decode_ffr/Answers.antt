-- `words::read::decode_ffr` meets its contract: as `decode`, for the forms on FFR; of no form, bits 31:24 decide.
use Rattle.words.proofs.Reading.{reading}
use Rattle.words.proofs.read.decode_ffr.Goals as goal

pub returns-then-is_setffr : goal.returns-then-is_setffr
returns-then-is_setffr c = search reading depth 9

pub returns-then-has_bits : goal.returns-then-has_bits
returns-then-has_bits c = search reading depth 9

pub returns-then-has_bits-2 : goal.returns-then-has_bits-2
returns-then-has_bits-2 c = search reading depth 9

pub returns-then-has_bits-3 : goal.returns-then-has_bits-3
returns-then-has_bits-3 c = search reading depth 9

pub returns-then-has_bits-4 : goal.returns-then-has_bits-4
returns-then-has_bits-4 c = search reading depth 9

pub returns-then-has_opcode : goal.returns-then-has_opcode
returns-then-has_opcode c = search reading depth 9

pub returns : goal.returns
returns c = search reading depth 9
