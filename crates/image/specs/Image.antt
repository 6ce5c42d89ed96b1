-- The image of a state and words.
use Rattle.std.specs.Prelude.{ℕ, ◌*◌, ◌/◌, List, [], ◌∷◌, ◌++◌, length, take}
use Rattle.bits.specs.Bits.{number}
use Rattle.bits.specs.Choice.{digit}
use Rattle.octets.specs.Bytes.{le, joined}
use Rattle.predicates.specs.declared.Flags.{Flags}
use Rattle.predicates.specs.declared.Predicate.{Predicate}
use Rattle.predicates.specs.Predicate.{bit_at}
use Rattle.registers.specs.declared.State.{State}
use Rattle.registers.specs.State.{ffr, read_p}

-- a section: its count in four bytes, then its items, each written by g
unfoldable pub section : {A : Type 0} → (A → List ℕ) → List A → List ℕ
section g items = le 4 (length items) ++ joined g items

-- VL/128, level, access
abbrev pub setting_items : State → List ℕ
setting_items s = s.vl / 128 ∷ s.level ∷ digit s.access ∷ []

-- the first k bytes of a predicate, lowest bits first
unfoldable pub predicate_bytes : ℕ → Predicate → List ℕ
predicate_bytes k p = le k (number (bit_at p) 0 (8 * k))

-- N Z C V
abbrev pub flag_items : Flags → List ℕ
flag_items f = digit f.n ∷ digit f.z ∷ digit f.c ∷ digit f.v ∷ []

-- settings, X, P at VL/64 bytes each, FFR likewise, flags, words
unfoldable pub image_of : State → List ℕ → List ℕ
image_of s ws =
    section (le 1) (setting_items s) ++ (section (le 8) s.x ++ (section (predicate_bytes (s.vl / 64)) (take ffr s.p)
    ++ (section (predicate_bytes (s.vl / 64)) (read_p s ffr ∷ []) ++ (section (le 1) (flag_items s.flags) ++ section (le 4) ws))))
