-- The register state: reads and writes. A number past the last register reads as zero, and a write to it vanishes.
use Rattle.std.specs.Prelude.{ℕ, Bool, List, map, get_or, set, take}
use Rattle.predicates.specs.declared.Flags.{Flags}
use Rattle.predicates.specs.declared.Predicate.{Predicate}
pub use Rattle.predicates.specs.Predicate.{all_false}
use Rattle.tally.specs.declared.Counts.{Counts}
use Rattle.tally.specs.Counts.{counts_of, no_counts}
use Rattle.registers.specs.declared.State.{State}

-- X0 to X30
abbrev pub x_registers : ℕ
x_registers = 31

-- FFR, the first-fault register, is predicate register 16; with P0 to P15 before it there are 17
abbrev pub ffr : ℕ
ffr = 16

abbrev pub register_count : ℕ
register_count = 17

-- counts are kept beside P0 to P15, and none beside FFR
abbrev pub counted_registers : ℕ
counted_registers = 16

-- the counts of P0 to P15
unfoldable pub all_counts : ℕ → List Predicate → List Counts
all_counts vl p = map (counts_of vl) (take counted_registers p)

-- a state of these settings, registers and counts
abbrev pub assembled : ℕ → ℕ → Bool → Flags → List ℕ → List Predicate → List Counts → State
assembled vl level access flags x p counts = record { vl = vl; level = level; access = access; flags = flags; x = x; p = p; counts = counts }

-- a state of these settings and registers, its counts worked out
abbrev pub made : ℕ → ℕ → Bool → Flags → List ℕ → List Predicate → State
made vl level access flags x p = assembled vl level access flags x p (all_counts vl p)

-- a state with its counts worked out, and all else as it is
abbrev pub counted : State → State
counted s = made s.vl s.level s.access s.flags s.x s.p

-- X0 to X30; number 31 reads as zero
abbrev pub read_x : State → ℕ → ℕ
read_x s r = get_or s.x r 0

-- P0 to P15, and FFR
abbrev pub read_p : State → ℕ → Predicate
read_p s r = get_or s.p r all_false

-- the counts kept beside P0 to P15
abbrev pub read_counts : State → ℕ → Counts
read_counts s r = get_or s.counts r no_counts

unfoldable pub with_x : State → ℕ → ℕ → State
with_x s r v = assembled s.vl s.level s.access s.flags (set s.x r v) s.p s.counts

-- a predicate is written with its counts beside it
unfoldable pub with_p : State → ℕ → Predicate → State
with_p s r q = assembled s.vl s.level s.access s.flags s.x (set s.p r q) (set s.counts r (counts_of s.vl q))

unfoldable pub with_flags : State → Flags → State
with_flags s f = assembled s.vl s.level s.access f s.x s.p s.counts
