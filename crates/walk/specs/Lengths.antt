-- What a walk writes, whatever the vector length.
use Rattle.std.specs.Prelude.{◌≡◌, ℕ, ◌+◌, ◌^◌, ◌<◌, ◌≤◌, List, length, slice_index}
use Rattle.registers.specs.declared.State.{State}
use Rattle.registers.specs.State.{read_x}
use Rattle.walk.specs.Plain.{Walk}

-- what the type of a state says of its X registers: 64 bits each
pub record Typed (s : State) : Type 0 where
  pub fits : (i : ℕ) → read_x s i < 2 ^ 64

-- the walk that began with list `l` and came to `w` wrote `start` and the numbers after it at the first `d` places, and nothing else
pub record Wrote (start d : ℕ) (l : List ℕ) (w : Walk State) : Type 0 where
  pub visited : w.visited ≡ d
  pub visits : (i : ℕ) → i < d → slice_index w.list i ≡ start + i
  pub untouched : (i : ℕ) → d ≤ i → slice_index w.list i ≡ slice_index l i
  pub places : length w.list ≡ length l
