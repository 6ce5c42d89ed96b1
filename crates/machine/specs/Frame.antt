-- What an instruction leaves as it was.
use Rattle.std.specs.Prelude.{ℕ, false, ◌≡◌}
use Rattle.registers.specs.declared.State.{State}
use Rattle.registers.specs.State.{read_x, read_p, read_counts}
use Rattle.instructions.specs.declared.operands.Registers.{Registers}

-- VL, level and access
pub record SameSettings (s t : State) : Type 0 where
  pub vl : t.vl ≡ s.vl
  pub level : t.level ≡ s.level
  pub access : t.access ≡ s.access

-- nothing but the registers that are named as written, and the flags if they are set
pub record Untouched (s t : State) (r : Registers) : Type 0 where
  pub settings : SameSettings s t
  pub x : (n : ℕ) → (n ≡ r.rd → ⊥) → read_x t n ≡ read_x s n
  pub p : (n : ℕ) → (n ≡ r.pd → ⊥) → (n ≡ r.pd2 → ⊥) → read_p t n ≡ read_p s n
  pub counts : (n : ℕ) → (n ≡ r.pd → ⊥) → (n ≡ r.pd2 → ⊥) → read_counts t n ≡ read_counts s n
  pub flags : r.flags ≡ false → t.flags ≡ s.flags
