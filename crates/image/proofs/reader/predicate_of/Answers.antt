-- `predicate_of` meets its contract. Assumes nothing.
use Rattle.octets.proofs.Bytes.{bytes_of}
use Rattle.image.proofs.PredicateBytes.{from_words}
use Rattle.image.proofs.reader.predicate_of.Goals as goal

pub returns : goal.returns
returns c = rw c.numbers.ensures (from_words _ (bytes_of _ c.type_inv.bs))
