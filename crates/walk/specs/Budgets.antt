-- Two budgets for one walk: the larger one only adds.
use Rattle.std.specs.Prelude.{◌≡◌, ℕ, ◌-◌, ◌≤◌, List, take}
use Rattle.registers.specs.declared.State.{State}
use Rattle.walk.specs.Plain.{WalkInstructions, Walk, begin, run}
use Rattle.walk.specs.Walk.{whole_of, walk_of}

-- two walks from one beginning: `v` with the smaller budget, `w` with the larger
pub record Adds {S : Type 0} (m : WalkInstructions S) (s : S) (l : List ℕ) (v w : Walk S) : Type 0 where
  -- the positions written under the smaller are the first of those written under the larger
  pub fewer : v.visited ≤ w.visited
  pub first : take v.visited v.list ≡ take v.visited (take w.visited w.list)
  -- after as many instructions as the smaller counts the walk is the smaller one, and the larger goes on from there
  pub passes : run m v.count (begin s l) ≡ v
  pub counts : v.count ≤ w.count
  pub on : run m (w.count - v.count) v ≡ w

-- two budgets give equal results: reply, count, number of positions and state; and the list
abbrev pub SameResults : (size n m d k a b : ℕ) → State → List ℕ → Type 0
SameResults size n m d k a b s l =
    (walk_of size n m d k a s l ≡ walk_of size n m d k b s l) × ((whole_of size n m d k a s l).list ≡ (whole_of size n m d k b s l).list)
