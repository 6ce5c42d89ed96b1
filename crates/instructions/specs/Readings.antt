-- A counter read with a count up to bit 14, for the theorems that a counter which WHILE writes reads alike both ways; no contract cites it.
use Rattle.std.specs.Prelude.{ℕ, suc, ◌-◌, Bool, ◌&&◌, nat_lt}
use Rattle.bits.specs.declared.Size.{Size}
use Rattle.bits.specs.Bits.{test_bit, number}
use Rattle.bits.specs.Size.{shift}
use Rattle.predicates.specs.declared.Predicate.{Predicate}
use Rattle.predicates.specs.Predicate.{bit_at, pack, spread, elements}
use Rattle.instructions.specs.Counter.{group_of, counter_of, mark_of, counter_element}

-- a counter expanded by the count up to bit 14
unfoldable pub expanded_to14 : ℕ → Predicate → ℕ → Bool
expanded_to14 vl p b =
    let j = mark_of p in
    nat_lt j 4 && spread j (counter_element vl j (bit_at p 15) (number (bit_at p) (suc j) (14 - j))) b

-- the counter of n elements of a group, as WHILE writes it
abbrev pub written : Bool → Bool → Size → ℕ → ℕ → Predicate
written up four size n vl = pack (test_bit (counter_of up (group_of four (elements vl size)) n (shift size)))
