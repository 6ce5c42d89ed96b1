-- When a walk is refused by none of 4, 10, 2, 3 and 11, and when it gives each reply.
use Rattle.replies.specs.Reply.{Reply}
use Rattle.std.specs.Prelude.{Ok, Err}
use Rattle.std.specs.Prelude.{◌≡◌, ℕ, ◌<◌, ◌≤◌, true, false}
use Rattle.replies.specs.declared.Refusal.TheVariants.{LevelTooLow, AccessOff, IllegalState, BadWalkRegisters, ListTooShort, BudgetSpent}
use Rattle.registers.specs.declared.State.{State}
use Rattle.registers.specs.Legal.{legal}
use Rattle.words.specs.Words.{size_of}
use Rattle.walk.specs.Demand.{needed}
use Rattle.walk.specs.Walk.{bad_registers, distance}

-- X numbers at most 31, P numbers at most 15, size at most 3; a start that is not 31; two different X registers, and two different P registers
pub record GoodRegisters (size n m d k : ℕ) : Type 0 where
  pub start : n ≤ 31
  pub limit : m ≤ 31
  pub lanes : d ≤ 15
  pub cursor : k ≤ 15
  pub element : size ≤ 3
  pub not_31 : n ≡ 31 → ⊥
  pub two_x : n ≡ m → ⊥
  pub two_p : d ≡ k → ⊥

-- the premises of demand 3: a legal state, such registers, SVE present, access on, and at least D places in the list
pub record Accepted (size n m d k : ℕ) (s : State) (places : ℕ) : Type 0 where
  pub legal_is : legal s ≡ true
  pub registers : GoodRegisters size n m d k
  pub present : 0 < s.level
  pub on : s.access ≡ true
  pub room : distance n m s ≤ places

-- rows 4, 10, 2, 3, 11, 12 and 0 of the table of replies, in the order of a walk
pub data Given (size n m d k budget : ℕ) (s : State) (places : ℕ) : Reply → Type 0 where
  illegal : legal s ≡ false → Given size n m d k budget s places (Err IllegalState)
  bad : legal s ≡ true → bad_registers size n m d k ≡ true → Given size n m d k budget s places (Err BadWalkRegisters)
  low : legal s ≡ true → GoodRegisters size n m d k → s.level ≡ 0 → Given size n m d k budget s places (Err LevelTooLow)
  off : legal s ≡ true → GoodRegisters size n m d k → 0 < s.level → s.access ≡ false → Given size n m d k budget s places (Err AccessOff)
  short : legal s ≡ true → GoodRegisters size n m d k → 0 < s.level → s.access ≡ true → places < distance n m s → Given size n m d k budget s places (Err ListTooShort)
  spent : Accepted size n m d k s places → budget < needed (size_of size) n m s → Given size n m d k budget s places (Err BudgetSpent)
  done : Accepted size n m d k s places → needed (size_of size) n m s ≤ budget → Given size n m d k budget s places (Ok tt)
