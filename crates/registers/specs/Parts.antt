-- The register state by its parts, as a host lends them.
use Rattle.std.specs.Prelude.{ℕ, Bool, false, List, [], ◌∷◌, get_or}
use Rattle.predicates.specs.declared.Flags.{Flags}
use Rattle.predicates.specs.declared.Predicate.{Predicate}
use Rattle.tally.specs.declared.Counts.{Counts}
use Rattle.registers.specs.declared.State.{State}
use Rattle.registers.specs.State.{assembled}
use Rattle.registers.specs.declared.parts.Settings.{Settings}

-- predicates, each by its four words
unfoldable pub predicates_of : List (List ℕ) → List Predicate
predicates_of [] = []
predicates_of (w ∷ ws) = record { words = w } ∷ predicates_of ws

-- the counts of B, H, S and D in this order
abbrev pub counts_as : List ℕ → Counts
counts_as c = record { b = get_or c 0 0; h = get_or c 1 0; s = get_or c 2 0; d = get_or c 3 0 }

-- counts, each as those of B, H, S and D
unfoldable pub counts_from : List (List ℕ) → List Counts
counts_from [] = []
counts_from (c ∷ cs) = counts_as c ∷ counts_from cs

-- N, Z, C and V in this order
abbrev pub flags_from : List Bool → Flags
flags_from f = record { n = get_or f 0 false; z = get_or f 1 false; c = get_or f 2 false; v = get_or f 3 false }

-- the state of these settings, flags, X and P registers and counts
abbrev pub state_at : Settings → List Bool → List ℕ → List (List ℕ) → List (List ℕ) → State
state_at s f x p c = assembled s.vl s.level s.access (flags_from f) x (predicates_of p) (counts_from c)

abbrev pub settings_of : State → Settings
settings_of s = record { vl = s.vl; level = s.level; access = s.access }
