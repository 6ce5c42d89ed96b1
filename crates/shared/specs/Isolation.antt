-- What isolation says: what a kernel leaves alone, two runs' answers and ends, and one action of each kernel in either order.
use Rattle.std.specs.Prelude.{ℕ, true, false, List, ◌≡◌}
use Rattle.registers.specs.State.{read_x, read_p, read_counts}
use Rattle.shared.specs.declared.Kernel.{Kernel}
use Rattle.shared.specs.declared.Kernel.TheVariants.{First, Second}
use Rattle.shared.specs.declared.Shared.{Shared}
use Rattle.shared.specs.Ownership.{owns_p, may_name_x, may_name_p}
use Rattle.shared.specs.Shared.{flags_for}
use Rattle.shared.specs.Schedule.{Action, Turn, answer_of, after_action, after_turns, answers_of, Alike}

-- the other kernel
abbrev pub other : Kernel → Kernel
other First = Second
other Second = First

-- the second shared state is the first but for what the kernel may name and for its flags
pub record Frame (who : Kernel) (s t : Shared) : Type 0 where
  pub vl : t.state.vl ≡ s.state.vl
  pub level : t.state.level ≡ s.state.level
  pub access : t.state.access ≡ s.state.access
  pub x : (r : ℕ) → may_name_x who r ≡ false → read_x t.state r ≡ read_x s.state r
  pub p : (r : ℕ) → may_name_p who r ≡ false → read_p t.state r ≡ read_p s.state r
  pub counts : (r : ℕ) → may_name_p who r ≡ false → read_counts t.state r ≡ read_counts s.state r
  pub flags : flags_for (other who) t ≡ flags_for (other who) s

-- two runs: the kernel is answered the same, and left with what is alike to it, counts included
pub record Outcome (who : Kernel) (s t : Shared) (us vs : List Turn) : Type 0 where
  pub answers : answers_of who s us ≡ answers_of who t vs
  pub after : Alike who (after_turns s us) (after_turns t vs)
  pub counts : (r : ℕ) → owns_p who r ≡ true → read_counts (after_turns s us).state r ≡ read_counts (after_turns t vs).state r

-- an action of the first kernel and one of the second: the answer to each whether it comes first or second, and the shared state
abbrev pub Commutes : Shared → Action → Action → Type 0
Commutes s a b =
    (answer_of First (after_action Second s b) a ≡ answer_of First s a) ×
    (answer_of Second (after_action First s a) b ≡ answer_of Second s b) ×
    (after_action Second (after_action First s a) b ≡ after_action First (after_action Second s b) a)
