-- The plain walk of document 01, over any four instructions.
use Rattle.std.specs.Prelude.{ℕ, zero, suc, ◌+◌, ◌-◌, ◌*◌, ◌/◌, Bool, true, false, List, slice_set}
use Rattle.bits.specs.Choice.{pick}
use Rattle.walk.specs.declared.Phase.{Phase}
use Rattle.walk.specs.declared.Phase.TheVariants.{Pfalse, Whilelo, Pnext, Incp}

-- PFALSE Pk, WHILELO Pd from Xn to Xm, PNEXT Pk over Pd, INCP Xn by Pd; flag Z; Xn plus the number of Pk's true element
pub record WalkInstructions (S : Type 0) : Type 0 where
  pub pfalse : S → S
  pub whilelo : S → S
  pub pnext : S → S
  pub incp : S → S
  pub zero_flag : S → Bool
  pub position : S → ℕ

-- what there is between two instructions: how many were executed, how many positions were visited, and the instruction to come
pub record Walk (S : Type 0) : Type 0 where
  pub state : S
  pub list : List ℕ
  pub count : ℕ
  pub visited : ℕ
  pub next : Phase
  pub ended : Bool

-- it begins with the given state and list, count 0, no position, and PFALSE to come
abbrev pub begin : {S : Type 0} → S → List ℕ → Walk S
begin s l = record { state = s; list = l; count = 0; visited = 0; next = Pfalse; ended = false }

-- after PNEXT: on Z comes INCP; else the position goes to the next list place, and PNEXT comes again
abbrev pub advanced : {S : Type 0} → WalkInstructions S → Bool → S → Walk S → Walk S
advanced m true s w = record { state = s; list = w.list; count = w.count + 1; visited = w.visited; next = Incp; ended = false }
advanced m false s w = record { state = s; list = slice_set w.list w.visited (m.position s); count = w.count + 1; visited = w.visited + 1; next = Pnext; ended = false }

-- the instruction to come is executed; after PFALSE or INCP comes WHILELO, which on Z ends the walk
abbrev pub execute : {S : Type 0} → WalkInstructions S → Phase → Walk S → Walk S
execute m Pfalse w = record { state = m.pfalse w.state; list = w.list; count = w.count + 1; visited = w.visited; next = Whilelo; ended = false }
execute m Whilelo w = record { state = m.whilelo w.state; list = w.list; count = w.count + 1; visited = w.visited; next = Pnext; ended = m.zero_flag (m.whilelo w.state) }
execute m Pnext w = advanced m (m.zero_flag (m.pnext w.state)) (m.pnext w.state) w
execute m Incp w = record { state = m.incp w.state; list = w.list; count = w.count + 1; visited = w.visited; next = Whilelo; ended = false }

-- one instruction more, unless it has ended
abbrev pub turn : {S : Type 0} → WalkInstructions S → Walk S → Walk S
turn m w = pick w.ended w (execute m w.next w)

-- the walk with a budget
unfoldable pub run : {S : Type 0} → WalkInstructions S → ℕ → Walk S → Walk S
run m zero w = w
run m (suc b) w = turn m (run m b w)

-- R: D / E rounded up
abbrev pub rounds : ℕ → ℕ → ℕ
rounds d e = (d + (e - 1)) / e

-- D + 3 R + 2
abbrev pub budget_for : ℕ → ℕ → ℕ
budget_for d e = d + 3 * rounds d e + 2
