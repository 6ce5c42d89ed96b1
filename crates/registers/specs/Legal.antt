-- What reply 4 refuses.
use Rattle.std.specs.Prelude.{ℕ, Bool, not, ◌&&◌, ◌||◌, leb, eqb, length}
use Rattle.bits.specs.Search.{some}
use Rattle.predicates.specs.Predicate.{predicate_length, has_bit_from}
use Rattle.tally.specs.Counts.{counts_of, same_counts}
use Rattle.registers.specs.declared.State.{State}
use Rattle.registers.specs.State.{x_registers, register_count, counted_registers, read_p, read_counts}

-- X0 to X30, P0 to P15 with FFR, and the counts of P0 to P15: no more and no less. Lent slices may be of other lengths
unfoldable pub has_all_registers : State → Bool
has_all_registers s = eqb (length s.x) x_registers && (eqb (length s.p) register_count && eqb (length s.counts) counted_registers)

-- the five vector lengths
unfoldable pub is_length : ℕ → Bool
is_length vl = eqb vl 128 || (eqb vl 256 || (eqb vl 512 || (eqb vl 1024 || eqb vl 2048)))

-- VL one of the five, level at most 3: for a state, and for an image's settings
abbrev pub settings_allowed : ℕ → ℕ → Bool
settings_allowed vl level = is_length vl && leb level 3

-- a predicate register, FFR among them, has a bit at or above PL
unfoldable pub has_stray_bit : State → Bool
has_stray_bit s = some (λ r. has_bit_from (predicate_length s.vl) (read_p s r)) register_count

-- one of P0 to P15 has a count beside it that is not that of its true elements
unfoldable pub has_wrong_count : State → Bool
has_wrong_count s = some (λ r. not (same_counts (counts_of s.vl (read_p s r)) (read_counts s r))) counted_registers

-- VL not one of the five, level above 3, a predicate bit at or above PL, or a wrong count; a value that lacks a register is no register state at all
unfoldable pub illegal : State → Bool
illegal s = not (has_all_registers s) || (not (settings_allowed s.vl s.level) || (has_stray_bit s || has_wrong_count s))

-- a legal register state is one that reply 4 does not refuse
abbrev pub legal : State → Bool
legal s = not (illegal s)
