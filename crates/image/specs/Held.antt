-- What the type of a state says: X registers of 64 bits, and predicates of four words of 64 bits.
use Rattle.std.specs.Prelude.{ℕ, ◌^◌, ◌<◌}
use Rattle.predicates.specs.Words.{Words}
use Rattle.registers.specs.declared.State.{State}
use Rattle.registers.specs.State.{register_count, read_x, read_p}

pub record Held (s : State) : Type 0 where
  pub xs : (i : ℕ) → read_x s i < 2 ^ 64
  pub ps : (r : ℕ) → r < register_count → Words (read_p s r)
