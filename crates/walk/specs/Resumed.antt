-- A walk that is taken up again where its budget was spent: a new walk from the state that it left, with the rest of the list.
use Rattle.std.specs.Prelude.{Ok}
use Rattle.std.specs.Prelude.{◌≡◌, ℕ, suc, ◌+◌, ◌-◌, ◌*◌, ◌<◌, ◌≤◌, min, List, ◌++◌, length, take, drop}
use Rattle.predicates.specs.Predicate.{elements}
use Rattle.registers.specs.declared.State.{State}
use Rattle.registers.specs.State.{read_x}
use Rattle.words.specs.Words.{size_of}
use Rattle.walk.specs.Demand.{needed}
use Rattle.walk.specs.Plain.{Walk, rounds}
use Rattle.walk.specs.Walk.{distance, refusal_of, whole_of}

-- of D positions with E lanes to a vector, those of the first r vectors, of which the last may be partial
abbrev pub passed_after : ℕ → ℕ → ℕ → ℕ
passed_after d e r = min (r * e) d

-- the instructions up to the r-th INCP: PFALSE, and for each vector WHILELO, a PNEXT for each lane and one more, INCP
abbrev pub count_after : ℕ → ℕ → ℕ → ℕ
count_after d e r = 1 + passed_after d e r + 3 * r

-- under a budget, INCP has passed so many positions, and so many were visited
pub record Stopped (d e budget passed visited : ℕ) : Type 0 where
  -- those of as many vectors as the budget has room for
  pub vectors : ℕ
  pub most : vectors ≤ rounds d e
  pub reached : 0 < vectors → count_after d e vectors ≤ budget
  pub no_further : vectors < rounds d e → budget < count_after d e (suc vectors)
  pub whole : passed ≡ passed_after d e vectors
  -- they were visited, and of the next vector's, at most all
  pub behind : passed ≤ visited
  pub unfinished : visited ≤ passed + e

-- by how much Xn has grown
abbrev pub grown : ℕ → State → State → ℕ
grown n s t = read_x t n - read_x s n

-- `v` is what a walk from state `s` with list `l` came to under the budget
pub record Resumes (size n m d k budget : ℕ) (s : State) (l : List ℕ) (v : Walk State) : Type 0 where
  -- Xn is the start plus the number of positions that INCP has passed
  pub xn : read_x v.state n ≡ read_x s n + grown n s v.state
  pub stopped : Stopped (distance n m s) (elements s.vl (size_of size)) budget (grown n s v.state) v.visited
  -- from there, with the list's part from that place on, nothing refuses a walk
  pub accepted : refusal_of size n m d k v.state (length (drop (grown n s v.state) v.list)) ≡ Ok tt
  -- if its budget suffices, both together leave the list of a single walk, and it leaves that walk's state
  pub list : (b c : ℕ) → needed (size_of size) n m v.state ≤ b → needed (size_of size) n m s ≤ c
      → take (grown n s v.state) v.list ++ (whole_of size n m d k b v.state (drop (grown n s v.state) v.list)).list ≡ (whole_of size n m d k c s l).list
  pub state : (b c : ℕ) → needed (size_of size) n m v.state ≤ b → needed (size_of size) n m s ≤ c
      → (whole_of size n m d k b v.state (drop (grown n s v.state) v.list)).state ≡ (whole_of size n m d k c s l).state
