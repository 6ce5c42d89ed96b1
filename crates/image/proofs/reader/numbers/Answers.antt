-- `numbers` meets its contract. Assumes nothing.
use Rattle.std.proofs.Common.{ℕ, ◌*◌, take, drop, rules, tests}
use Rattle.octets.specs.Bytes.{value}
use Rattle.image.proofs.Readings.{filled, each_part}
use Rattle.image.proofs.reader.numbers.Goals as goal

pub returns : goal.returns
returns g c =
    let xs = c.from_fn.ensures.items in
    each_part value 8 _ _ _ 0 xs.long (λ i l. filled _ _ (λ (i : ℕ). value (take 8 (drop (i * 8) c.args.content.now))) (λ j y q k. search (rules, tests)) xs i 0 l)
