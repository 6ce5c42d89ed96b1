-- The walk of the register state, with its refusals.
use Rattle.replies.specs.Reply.{Reply, is_done}
use Rattle.std.specs.Prelude.{Ok, Err}
use Rattle.std.specs.Prelude.{ℕ, ◌+◌, ◌-◌, ◌%◌, ◌^◌, Bool, true, false, not, ◌||◌, List, length, ◌==◌, nat_lt}
use Rattle.bits.specs.declared.Size.{Size}
use Rattle.bits.specs.Choice.{pick}
use Rattle.bits.specs.Search.{first_from}
use Rattle.bits.specs.Size.{shift}
use Rattle.predicates.specs.declared.Predicate.{Predicate}
use Rattle.predicates.specs.Predicate.{active, elements}
use Rattle.replies.specs.declared.Refusal.TheVariants.{LevelTooLow, AccessOff, IllegalState, BadWalkRegisters, ListTooShort, BudgetSpent}
use Rattle.registers.specs.declared.State.{State}
use Rattle.registers.specs.Legal.{legal}
use Rattle.registers.specs.State.{read_x, read_p}
use Rattle.scalars.specs.declared.Condition.TheVariants.{Less}
use Rattle.words.specs.declared.Target.TheVariants.{One}
use Rattle.words.specs.declared.Instruction.{Instruction}
use Rattle.words.specs.declared.Instruction.TheVariants.{While, IncDec, Pnext, Pfalse}
use Rattle.words.specs.Words.{size_of}
use Rattle.machine.specs.Execute.{execute_of}
use Rattle.walk.specs.declared.Phase.{Phase}
use Rattle.walk.specs.declared.Walked.{Walked}
use Rattle.walk.specs.Plain.{WalkInstructions, Walk, begin, run}

-- Xn plus the number of Pk's true element, in 64 bits
unfoldable pub position_at : Size → ℕ → Predicate → ℕ → ℕ
position_at size x cursor vl = (x + first_from (active (shift size) cursor) 0 (elements vl size)) % 2 ^ 64

abbrev pub position_of : Size → ℕ → ℕ → State → ℕ
position_of size n k s = position_at size (read_x s n) (read_p s k) s.vl

-- the instruction to come: PFALSE Pk, WHILELO Pd from Xn to Xm, PNEXT Pk over Pd, INCP Xn by Pd
abbrev pub instruction_at : Size → ℕ → ℕ → ℕ → ℕ → Phase → Instruction
instruction_at size n m d k Phase.Pfalse = Pfalse k
instruction_at size n m d k Phase.Whilelo = While Less true (One true d) size n m
instruction_at size n m d k Phase.Pnext = Pnext size d k
instruction_at size n m d k Phase.Incp = IncDec false size d n

-- the four instructions as a step executes them (`walk_steps`)
abbrev pub instructions_of : Size → ℕ → ℕ → ℕ → ℕ → WalkInstructions State
instructions_of size n m d k = record {
  pfalse = λ s. execute_of s (instruction_at size n m d k Phase.Pfalse);
  whilelo = λ s. execute_of s (instruction_at size n m d k Phase.Whilelo);
  pnext = λ s. execute_of s (instruction_at size n m d k Phase.Pnext);
  incp = λ s. execute_of s (instruction_at size n m d k Phase.Incp);
  zero_flag = λ s. s.flags.z;
  position = position_of size n k;
}

-- the plain walk of a state with a list
abbrev pub plain_walk : Size → ℕ → ℕ → ℕ → ℕ → ℕ → State → List ℕ → Walk State
plain_walk size n m d k budget s l = run (instructions_of size n m d k) budget (begin s l)

-- the reply is 0 if it has ended, else 12
abbrev pub walked : Walk State → Walked
walked w = record { reply = pick w.ended (Ok tt) (Err BudgetSpent); count = w.count; visited = w.visited; state = w.state }

-- register number past 31 (X) or 15 (P), size past 3, n = 31, n = m, or d = k
unfoldable pub bad_registers : ℕ → ℕ → ℕ → ℕ → ℕ → Bool
bad_registers size n m d k = nat_lt 31 n || (nat_lt 31 m || (nat_lt 15 d || (nat_lt 15 k || (nat_lt 3 size || (n == 31 || (n == m || d == k))))))

-- D: limit - start, or 0 if start is at or above limit
abbrev pub distance : ℕ → ℕ → State → ℕ
distance n m s = read_x s m - read_x s n

-- the first refusal of 4, 10, 2 (level 0), 3 and 11 that applies, or 0
unfoldable pub refusal_of : ℕ → ℕ → ℕ → ℕ → ℕ → State → ℕ → Reply
refusal_of size n m d k s places =
    pick (not (legal s)) (Err IllegalState)
    (pick (bad_registers size n m d k) (Err BadWalkRegisters)
    (pick (s.level == 0) (Err LevelTooLow)
    (pick (not s.access) (Err AccessOff)
    (pick (nat_lt places (distance n m s)) (Err ListTooShort) (Ok tt)))))

-- the walk at its end; where it is refused, as it begins
unfoldable pub whole_of : ℕ → ℕ → ℕ → ℕ → ℕ → ℕ → State → List ℕ → Walk State
whole_of size n m d k budget s l =
    pick (is_done (refusal_of size n m d k s (length l))) (plain_walk (size_of size) n m d k budget s l) (begin s l)

-- the answer; a refusal carries its number and the given state: no instruction was executed, no position visited
unfoldable pub walk_of : ℕ → ℕ → ℕ → ℕ → ℕ → ℕ → State → List ℕ → Walked
walk_of size n m d k budget s l =
    pick (is_done (refusal_of size n m d k s (length l))) (walked (whole_of size n m d k budget s l))
    (record { reply = refusal_of size n m d k s (length l); count = 0; visited = 0; state = s })
