-- Predicates as counters: how a count is stored, and how a counter is read. An element of 2 ^ k bits belongs to the size whose `shift` is k.
use Rattle.std.specs.Prelude.{ℕ, suc, ◌+◌, ◌-◌, ◌*◌, ◌/◌, ◌^◌, Bool, true, false, not, ◌&&◌, ◌==◌, nat_lt}
use Rattle.std.specs.Int.{w64}
use Rattle.bits.specs.declared.Size.{Size}
use Rattle.bits.specs.Bits.{test_bit, number}
use Rattle.bits.specs.Choice.{pick, digit}
use Rattle.bits.specs.Search.{count, first_from, after_last}
use Rattle.bits.specs.Size.{shift}
use Rattle.predicates.specs.declared.Flags.{Flags}
use Rattle.predicates.specs.declared.Predicate.{Predicate}
use Rattle.predicates.specs.Predicate.{bit_at, pack, spread, predicate_length, elements}
use Rattle.scalars.specs.declared.Condition.{Condition}
use Rattle.scalars.specs.While.{upward, comparison, all_held}
use Rattle.instructions.specs.Effect.{Effect, gives_x, gives_pf}

-- the elements of a group of two vectors, or of four
abbrev pub group_of : Bool → ℕ → ℕ
group_of four n = pick four (4 * n) (2 * n)

-- bit 15 is the inversion; below it the count stands above the mark 1, 10, 100, 1000
abbrev pub stored : Bool → ℕ → ℕ → ℕ
stored inverted n k = digit inverted * 2 ^ 15 + (n * 2 + 1) * 2 ^ k

-- the counter of a group of g elements of which n are true: with n = 0 all zero; counting down, inverted g - n; counting up
-- with n = g, inverted 0; else n
unfoldable pub counter_of : Bool → ℕ → ℕ → ℕ → ℕ
counter_of up g n k = pick (n == 0) 0 (pick up (pick (n == g) (stored true 0 k) (stored false n k)) (stored true (g - n) k))

-- up: N is n ≠ 0, Z is n = 0, C is n ≠ g; down: N is n = g, Z is n = 0, C is n = 0
unfoldable pub counter_flags : Bool → ℕ → ℕ → Flags
counter_flags up g n = record {
  n = pick up (not (n == 0)) (n == g);
  z = (n == 0);
  c = pick up (not (n == g)) (n == 0);
  v = false;
}

-- the mark: the lowest of the low four bits that is set, and so the size's k; 4 if none is
abbrev pub mark_of : Predicate → ℕ
mark_of p = first_from (bit_at p) 0 4

-- the bit at which the count ends: the position of the highest set bit of 4 PL, which `after_last` gives plus 1
unfoldable pub count_end : ℕ → ℕ
count_end vl = after_last (test_bit (4 * predicate_length vl)) 64 - 1

-- the count: every bit above the mark j up to that one
abbrev pub count_above : ℕ → ℕ → Predicate → ℕ
count_above vl j p = number (bit_at p) (suc j) (count_end vl - j)

-- of the 4 E elements of the mark's size those below the count n, all flipped if the counter is inverted
abbrev pub counter_element : ℕ → ℕ → Bool → ℕ → ℕ → Bool
counter_element vl j inverted n e = nat_lt e (4 * (predicate_length vl / 2 ^ j)) && pick inverted (not (nat_lt e n)) (nat_lt e n)

-- the counter expanded: true at the lowest bit of each of those elements, bit 15 the inversion; no element if there is no mark
unfoldable pub expanded : ℕ → Predicate → ℕ → Bool
expanded vl p b =
    let j = mark_of p in
    nat_lt j 4 && spread j (counter_element vl j (bit_at p 15) (count_above vl j p)) b

-- WHILE into a counter: of the group's elements those are counted whose comparison and all earlier ones held
unfoldable pub while_counter_of : Condition → Bool → Bool → Size → ℕ → ℕ → ℕ → Effect
while_counter_of c unsigned four size rn rm vl =
    let g = group_of four (elements vl size) in
    let n = count (all_held (comparison w64 unsigned c rn rm)) g in
    gives_pf (pack (test_bit (counter_of (upward c) g n (shift size)))) (counter_flags (upward c) g n)

-- CNTP of a counter: at the instruction's own size, the elements of a group that are true
unfoldable pub cntp_counter_of : Bool → Size → Predicate → ℕ → Effect
cntp_counter_of four size pn vl = gives_x (count (λ e. expanded vl pn (e * 2 ^ shift size)) (group_of four (elements vl size)))
