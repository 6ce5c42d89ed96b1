-- Two budgets for one walk of a kernel: the larger one only adds. The other kernel's registers and flags are in the shared state that is passed through.
use Rattle.std.specs.Prelude.{Ok}
use Rattle.std.specs.Prelude.{ℕ, ◌+◌, ◌-◌, ◌≤◌, List, ◌++◌, ◌≡◌, length, take, drop}
use Rattle.predicates.specs.Predicate.{elements}
use Rattle.registers.specs.State.{read_x}
use Rattle.words.specs.Words.{size_of}
use Rattle.walk.specs.Demand.{needed}
use Rattle.walk.specs.Plain.{run}
use Rattle.walk.specs.Resumed.{Stopped, grown}
use Rattle.walk.specs.Walk.{instructions_of, walked, distance}
use Rattle.shared.specs.declared.Kernel.{Kernel}
use Rattle.shared.specs.declared.Shared.{Shared}
use Rattle.shared.specs.declared.Walked.{Walked}
use Rattle.shared.specs.Shared.{refusal_of, plain_of, walked_for, walk_of, list_of}

-- the answer is `r` and the list after it `l`: those of the plain walk after as many instructions as the answer counts
pub record Reached (who : Kernel) (size n m d k : ℕ) (s : Shared) (before : List ℕ) (r : Walked) (after : List ℕ) : Type 0 where
  pub answer : r ≡ walked_for who s (walked (plain_of who size n m d k r.count s before))
  pub list : after ≡ (plain_of who size n m d k r.count s before).list

-- two answers, with the smaller budget and with the larger
pub record KernelAdds (who : Kernel) (size n m d k : ℕ) (s : Shared) (before : List ℕ) (r q : Walked) (after later : List ℕ) : Type 0 where
  -- the positions written under the smaller are the first of those written under the larger
  pub fewer : r.visited ≤ q.visited
  pub first : take r.visited after ≡ take r.visited (take q.visited later)
  -- each answer is where the kernel's walk is after as many instructions as it counts, and the larger goes on from the smaller
  pub passes : Reached who size n m d k s before r after
  pub counts : r.count ≤ q.count
  pub on : run (instructions_of (size_of size) n m d k) (q.count - r.count) (plain_of who size n m d k r.count s before) ≡ plain_of who size n m d k q.count s before
  pub ends : Reached who size n m d k s before q later

-- two budgets give equal results: reply, count, number of positions and shared state; and the list
abbrev pub KernelSameResults : Kernel → (size n m d k a b : ℕ) → Shared → List ℕ → Type 0
KernelSameResults who size n m d k a b s l = (walk_of who size n m d k a s l ≡ walk_of who size n m d k b s l) × (list_of who size n m d k a s l ≡ list_of who size n m d k b s l)

-- a kernel's walk that is taken up again: under the budget it was answered `r`, and left the list `after`
pub record KernelResumes (who : Kernel) (size n m d k budget : ℕ) (s : Shared) (before : List ℕ) (r : Walked) (after : List ℕ) : Type 0 where
  -- Xn is the start plus the number of positions that INCP has passed
  pub xn : read_x r.shared.state n ≡ read_x s.state n + grown n s.state r.shared.state
  pub stopped : Stopped (distance n m s.state) (elements s.state.vl (size_of size)) budget (grown n s.state r.shared.state) r.visited
  -- from there, with the list's part from that place on, nothing refuses a walk of the kernel
  pub accepted : refusal_of who size n m d k r.shared (length (drop (grown n s.state r.shared.state) after)) ≡ Ok tt
  -- if its budget suffices, both together leave the list of a single walk, and it leaves that walk's shared state
  pub list : (b c : ℕ) → needed (size_of size) n m r.shared.state ≤ b → needed (size_of size) n m s.state ≤ c
      → take (grown n s.state r.shared.state) after ++ list_of who size n m d k b r.shared (drop (grown n s.state r.shared.state) after) ≡ list_of who size n m d k c s before
  pub shared : (b c : ℕ) → needed (size_of size) n m r.shared.state ≤ b → needed (size_of size) n m s.state ≤ c
      → (walk_of who size n m d k b r.shared (drop (grown n s.state r.shared.state) after)).shared ≡ (walk_of who size n m d k c s before).shared
