-- A step and a walk of one of two kernels. The replies in their order: of a step 4, 1 or 13, 2, 3, 15, 0; of a walk 4, 10, 2, 3, 15, 11, 12, 0.
-- What nothing refuses is executed on the state with this kernel's flags.
use Rattle.std.specs.Prelude.{Result}
use Rattle.replies.specs.declared.Refusal.{Refusal}
use Rattle.replies.specs.Reply.{Reply, is_done}
use Rattle.std.specs.Prelude.{Ok, Err}
use Rattle.std.specs.Prelude.{ℕ, Bool, true, false, not, List, ltb, eqb, length}
use Rattle.bits.specs.Choice.{pick}
use Rattle.predicates.specs.declared.Flags.{Flags}
use Rattle.replies.specs.declared.Refusal.TheVariants.{LevelTooLow, AccessOff, IllegalState, BadWalkRegisters, ListTooShort, NotOwned}
use Rattle.registers.specs.declared.State.{State}
use Rattle.registers.specs.Legal.{legal}
use Rattle.registers.specs.State.{with_flags}
use Rattle.words.specs.declared.Instruction.{Instruction}
use Rattle.words.specs.Words.{size_of, decode_of, level_of}
use Rattle.instructions.specs.Operands.{registers_of}
use Rattle.machine.specs.Execute.{execute_of}
use Rattle.walk.specs.declared.Walked as Walk'
use Rattle.walk.specs.Plain.{Walk}
use Rattle.walk.specs.Walk.{plain_walk, walked, bad_registers, distance}
use Rattle.shared.specs.declared.Kernel.{Kernel}
use Rattle.shared.specs.declared.Kernel.TheVariants.{First, Second}
use Rattle.shared.specs.declared.Shared.{Shared}
use Rattle.shared.specs.declared.Stepped.{Stepped}
use Rattle.shared.specs.declared.Walked.{Walked}
use Rattle.shared.specs.Ownership.{may_name, may_walk}

-- the second, if it is asked for
abbrev pub kernel_of : Bool → Kernel
kernel_of true = Second
kernel_of false = First

-- the first kernel's flags stand in the state, the second's beside it
abbrev pub flags_for : Kernel → Shared → Flags
flags_for First s = s.state.flags
flags_for Second s = s.second

-- the state as a kernel has it
unfoldable pub state_for : Kernel → Shared → State
state_for who s = with_flags s.state (flags_for who s)

-- what a kernel leaves: the registers, and its flags in their place
unfoldable pub shared_after : Kernel → Shared → State → Shared
shared_after First s t = record { state = t; second = s.second }
shared_after Second s t = record { state = with_flags t s.state.flags; second = t.flags }

-- ---- a step

-- the first refusal of 2, 3 and 15 that applies to an instruction, or 0. 14 would stand next: WRFFR, which alone can get it, touches FFR
abbrev pub reply_of : Kernel → Shared → Instruction → Reply
reply_of who s i =
    pick (ltb s.state.level (level_of i)) (Err LevelTooLow)
    (pick (not s.state.access) (Err AccessOff)
    (pick (not (may_name who (registers_of i))) (Err NotOwned) (Ok tt)))

-- before these come 1 and 13, of a word that is no instruction. An instruction that nothing refuses is executed on the state as the kernel has it; a refusal returns what it was given
unfoldable pub after_word : Kernel → Shared → Result Instruction Refusal → Stepped
after_word who s (Err r) = record { reply = Err r; shared = s }
after_word who s (Ok i) =
    let r = reply_of who s i in
    record { reply = r; shared = pick (is_done r) (shared_after who s (execute_of (state_for who s) i)) s }

-- and 4 comes first
unfoldable pub step_of : Kernel → Shared → ℕ → Stepped
step_of who s w = pick (legal s.state) (after_word who s (decode_of w)) (record { reply = Err IllegalState; shared = s })

-- ---- a walk

-- the first refusal of 4, 10, 2 (level 0), 3, 15 and 11 that applies, or 0
unfoldable pub refusal_of : Kernel → ℕ → ℕ → ℕ → ℕ → ℕ → Shared → ℕ → Reply
refusal_of who size n m d k s places =
    pick (not (legal s.state)) (Err IllegalState)
    (pick (bad_registers size n m d k) (Err BadWalkRegisters)
    (pick (eqb s.state.level 0) (Err LevelTooLow)
    (pick (not s.state.access) (Err AccessOff)
    (pick (not (may_walk who n m d k)) (Err NotOwned)
    (pick (ltb places (distance n m s.state)) (Err ListTooShort) (Ok tt))))))

-- the plain walk of the state as the kernel has it
abbrev pub plain_of : Kernel → ℕ → ℕ → ℕ → ℕ → ℕ → ℕ → Shared → List ℕ → Walk State
plain_of who size n m d k budget s l = plain_walk (size_of size) n m d k budget (state_for who s) l

-- an ordinary walk's answer, with the registers that it leaves
abbrev pub walked_for : Kernel → Shared → Walk'.Walked → Walked
walked_for who s r = record { reply = r.reply; count = r.count; visited = r.visited; shared = shared_after who s r.state }

-- the plain walk's answer, which is 0 or 12; a refusal carries its number and what it was given: no instruction was executed, no position visited
unfoldable pub walk_of : Kernel → ℕ → ℕ → ℕ → ℕ → ℕ → ℕ → Shared → List ℕ → Walked
walk_of who size n m d k budget s l =
    let r = refusal_of who size n m d k s (length l) in
    pick (is_done r) (walked_for who s (walked (plain_of who size n m d k budget s l))) (record { reply = r; count = 0; visited = 0; shared = s })

-- the list after it; a refusal leaves it as it was
unfoldable pub list_of : Kernel → ℕ → ℕ → ℕ → ℕ → ℕ → ℕ → Shared → List ℕ → List ℕ
list_of who size n m d k budget s l = pick (is_done (refusal_of who size n m d k s (length l))) (plain_of who size n m d k budget s l).list l

-- a kernel's answer as an ordinary walk's: the state with that kernel's flags
abbrev pub walked_by : Kernel → Walked → Walk'.Walked
walked_by who r = record { reply = r.reply; count = r.count; visited = r.visited; state = state_for who r.shared }
