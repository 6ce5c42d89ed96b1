-- `predicates_of` meets its contract. Assumes nothing.
use Rattle.std.proofs.Common.{ℕ, ◌*◌, ◌∙◌, take, drop, cond, ltb, rules, tests}
use native.Mathlib.Omega.{arith}
use lib.Dec.{lit<}
use borrow.Author.Tests.{lt-ltb}
use Rattle.image.specs.Reading.{predicate_of}
use Rattle.image.proofs.Readings.{filled, ffr_last}
use Rattle.image.proofs.reader.predicates_of.Goals as goal

pub returns : goal.returns
returns c =
    let xs = c.from_fn.ensures.items in
    let f = c.args.ffr in
    let each = filled _ _ (λ (i : ℕ). cond (ltb i 16) (predicate_of (take c.args.size (drop (i * c.args.size) c.args.content.now))) f) (λ j y q k. search (rules, tests)) xs in
    ffr_last _ _ _ f xs.long (λ i l. each i f (omega arith) ∙ rw (lt-ltb i 16 l)) (each 16 f (lit< tt))
