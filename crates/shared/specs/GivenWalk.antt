-- When a walk of a kernel is refused by none of 4, 10, 2, 3, 15 and 11, and when it gives each reply.
use Rattle.replies.specs.Reply.{Reply}
use Rattle.std.specs.Prelude.{Ok, Err}
use Rattle.std.specs.Prelude.{ℕ, ◌≤◌, ◌<◌, true, false, ◌||◌, ◌≡◌, eqb}
use Rattle.replies.specs.declared.Refusal.TheVariants.{LevelTooLow, AccessOff, IllegalState, BadWalkRegisters, ListTooShort, BudgetSpent, NotOwned}
use Rattle.registers.specs.Legal.{legal}
use Rattle.words.specs.Words.{size_of}
use Rattle.walk.specs.Demand.{needed}
use Rattle.walk.specs.Given.{GoodRegisters}
use Rattle.walk.specs.Given as Walk
use Rattle.walk.specs.Walk.{bad_registers, distance}
use Rattle.shared.specs.declared.Kernel.{Kernel}
use Rattle.shared.specs.declared.Shared.{Shared}
use Rattle.shared.specs.Ownership.{owns_x, owns_p}

-- all four registers are the kernel's own, or 31 is the limit
pub record Owned (who : Kernel) (n m d k : ℕ) : Type 0 where
  pub start : owns_x who n ≡ true
  pub limit : (eqb m 31 || owns_x who m) ≡ true
  pub lanes : owns_p who d ≡ true
  pub cursor : owns_p who k ≡ true

-- the premises of demand 3 for a kernel: those of an ordinary walk, and such registers
pub record Accepted (who : Kernel) (size n m d k : ℕ) (s : Shared) (places : ℕ) : Type 0 where
  pub ordinary : Walk.Accepted size n m d k s.state places
  pub owned : Owned who n m d k

-- rows 4, 10, 2, 3, 15, 11, 12 and 0 of the table of replies, in the order of a walk
pub data Given (who : Kernel) (size n m d k budget : ℕ) (s : Shared) (places : ℕ) : Reply → Type 0 where
  illegal : legal s.state ≡ false → Given who size n m d k budget s places (Err IllegalState)
  bad : legal s.state ≡ true → bad_registers size n m d k ≡ true → Given who size n m d k budget s places (Err BadWalkRegisters)
  low : legal s.state ≡ true → GoodRegisters size n m d k → s.state.level ≡ 0 → Given who size n m d k budget s places (Err LevelTooLow)
  off : legal s.state ≡ true → GoodRegisters size n m d k → 0 < s.state.level → s.state.access ≡ false → Given who size n m d k budget s places (Err AccessOff)
  not_owned : legal s.state ≡ true → GoodRegisters size n m d k → 0 < s.state.level → s.state.access ≡ true → (Owned who n m d k → ⊥) → Given who size n m d k budget s places (Err NotOwned)
  short : legal s.state ≡ true → GoodRegisters size n m d k → 0 < s.state.level → s.state.access ≡ true → Owned who n m d k → places < distance n m s.state → Given who size n m d k budget s places (Err ListTooShort)
  spent : Accepted who size n m d k s places → budget < needed (size_of size) n m s.state → Given who size n m d k budget s places (Err BudgetSpent)
  done : Accepted who size n m d k s places → needed (size_of size) n m s.state ≤ budget → Given who size n m d k budget s places (Ok tt)
