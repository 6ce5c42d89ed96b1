-- Demand 3: what a walk that is not refused comes to.
use Rattle.std.specs.Prelude.{Ok, Err}
use Rattle.std.specs.Prelude.{◌≡◌, ℕ, ◌+◌, ◌<◌, ◌≤◌, max, true, false, List, length, slice_index}
use Rattle.bits.specs.declared.Size.{Size}
use Rattle.predicates.specs.Predicate.{all_false, elements}
use Rattle.replies.specs.declared.Refusal.TheVariants.{BudgetSpent}
use Rattle.registers.specs.declared.State.{State}
use Rattle.registers.specs.State.{read_x, with_x, with_p, with_flags}
use Rattle.walk.specs.declared.Walked.{Walked}
use Rattle.walk.specs.Plain.{budget_for}
use Rattle.walk.specs.Walk.{distance, plain_walk, walked}

-- D + 3 R + 2
abbrev pub needed : Size → ℕ → ℕ → State → ℕ
needed size n m s = budget_for (distance n m s) (elements s.vl size)

-- Xn is the larger of start and limit, Pd and Pk are false, flags are N0 Z1 C1 V0, and all else is as it was
abbrev pub final_state : ℕ → ℕ → ℕ → ℕ → State → State
final_state n m d k s =
    with_flags (with_p (with_p (with_x s n (max (read_x s n) (read_x s m))) d all_false) k all_false)
    (record { n = false; z = true; c = true; v = false })

-- a finished walk
pub record Finished (size : Size) (n m d k : ℕ) (s : State) (r : Walked) : Type 0 where
  pub reply : r.reply ≡ Ok tt
  pub count : r.count ≡ needed size n m s
  pub visited : r.visited ≡ distance n m s
  pub state : r.state ≡ final_state n m d k s

-- a walk whose budget is spent: state and positions are the plain walk's after that many instructions
pub record Spent (budget : ℕ) (r : Walked) : Type 0 where
  pub reply : r.reply ≡ Err BudgetSpent
  pub count : r.count ≡ budget

-- the walk with the list before and after, and the answer
pub record Demand3 (size : Size) (n m d k budget : ℕ) (s : State) (before after : List ℕ) (r : Walked) : Type 0 where
  -- reply, count, number of positions and state come out as the plain walk's, and so does the list
  pub answer : r ≡ walked (plain_walk size n m d k budget s before)
  pub list : after ≡ (plain_walk size n m d k budget s before).list
  -- done exactly when the budget is at least D + 3 R + 2
  pub enough : needed size n m s ≤ budget → Finished size n m d k s r
  pub short : budget < needed size n m s → Spent budget r
  -- the positions are start, start + 1, .., below the limit, ascending, each once, from the first place on
  pub within : r.visited ≤ distance n m s
  pub visits : (i : ℕ) → i < r.visited → slice_index after i ≡ read_x s n + i
  -- every other place is as it was
  pub untouched : (i : ℕ) → r.visited ≤ i → slice_index after i ≡ slice_index before i
  pub places : length after ≡ length before
