-- Both kernels' steps and walks, in whatever order they come; and what makes two shared states alike to one kernel.
use Rattle.replies.specs.Reply.{Reply}
use Rattle.std.specs.Prelude.{ℕ, Bool, true, false, List, [], ◌∷◌, ◌≡◌}
use Rattle.bits.specs.Choice.{pick}
use Rattle.registers.specs.State.{read_x, read_p}
use Rattle.shared.specs.declared.Kernel.{Kernel}
use Rattle.shared.specs.declared.Kernel.TheVariants.{First, Second}
use Rattle.shared.specs.declared.Shared.{Shared}
use Rattle.shared.specs.Ownership.{owns_x, owns_p}
use Rattle.shared.specs.Shared.{flags_for, step_of, walk_of, list_of}

-- what a kernel asks for: a word, or a walk, which is fixed by its numbers, budget and list
pub data Action : Type 0 where
  step : ℕ → Action
  walk : (size n m d k budget : ℕ) → List ℕ → Action

-- what it is answered: a reply, and for a walk the count of instructions, that of positions, and the list after it
pub record Answer : Type 0 where
  pub reply : Reply
  pub count : ℕ
  pub visited : ℕ
  pub list : List ℕ

abbrev pub answer_of : Kernel → Shared → Action → Answer
answer_of who s (step w) = record { reply = (step_of who s w).reply; count = 0; visited = 0; list = [] }
answer_of who s (walk size n m d k budget l) =
    let r = walk_of who size n m d k budget s l in
    record { reply = r.reply; count = r.count; visited = r.visited; list = list_of who size n m d k budget s l }

abbrev pub after_action : Kernel → Shared → Action → Shared
after_action who s (step w) = (step_of who s w).shared
after_action who s (walk size n m d k budget l) = (walk_of who size n m d k budget s l).shared

-- a schedule is a list of turns; a refused one changes nothing, and the next is taken
pub record Turn : Type 0 where
  pub kernel : Kernel
  pub action : Action

unfoldable pub after_turns : Shared → List Turn → Shared
after_turns s [] = s
after_turns s (t ∷ ts) = after_turns (after_action t.kernel s t.action) ts

abbrev pub same : Kernel → Kernel → Bool
same First First = true
same First Second = false
same Second First = false
same Second Second = true

-- what one kernel asks for in a schedule, and what it is answered, in their order
unfoldable pub actions_of : Kernel → List Turn → List Action
actions_of who [] = []
actions_of who (t ∷ ts) = pick (same who t.kernel) (t.action ∷ actions_of who ts) (actions_of who ts)

unfoldable pub answers_of : Kernel → Shared → List Turn → List Answer
answers_of who s [] = []
answers_of who s (t ∷ ts) =
    let rest = answers_of who (after_action t.kernel s t.action) ts in
    pick (same who t.kernel) (answer_of who s t.action ∷ rest) rest

-- vector length, level, access, the registers that a kernel owns, and its flags. In legal states the counts beside them are then the same too (`alike_counts`)
pub record Alike (who : Kernel) (s t : Shared) : Type 0 where
  pub vl : s.state.vl ≡ t.state.vl
  pub level : s.state.level ≡ t.state.level
  pub access : s.state.access ≡ t.state.access
  pub x : (r : ℕ) → owns_x who r ≡ true → read_x s.state r ≡ read_x t.state r
  pub p : (r : ℕ) → owns_p who r ≡ true → read_p s.state r ≡ read_p t.state r
  pub flags : flags_for who s ≡ flags_for who t
