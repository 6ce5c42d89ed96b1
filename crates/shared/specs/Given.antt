-- When a step of a kernel gives each reply: 4, 1, 13, 2, 3, 15 and 0.
use Rattle.replies.specs.Reply.{Reply}
use Rattle.std.specs.Prelude.{Ok, Err}
use Rattle.std.specs.Prelude.{ℕ, ◌≤◌, ◌<◌, true, false, ◌≡◌}
use Rattle.replies.specs.declared.Refusal.TheVariants.{ForeignWord, LevelTooLow, AccessOff, IllegalState, UnsupportedForm, NotOwned}
use Rattle.registers.specs.Legal.{legal}
use Rattle.words.specs.declared.Instruction.{Instruction}
use Rattle.words.specs.Words.{has_opcode, decode_of, level_of}
use Rattle.instructions.specs.Operands.{registers_of}
use Rattle.shared.specs.declared.Kernel.{Kernel}
use Rattle.shared.specs.declared.Shared.{Shared}
use Rattle.shared.specs.Ownership.{may_name}

-- an ordinary step's rows but that of 14: WRFFR, which alone can get it, touches FFR and gets 15
pub data Given (who : Kernel) (s : Shared) (w : ℕ) : Reply → Type 0 where
  illegal : legal s.state ≡ false → Given who s w (Err IllegalState)
  foreign : legal s.state ≡ true → has_opcode w ≡ false → Given who s w (Err ForeignWord)
  unsupported : legal s.state ≡ true → has_opcode w ≡ true → ((i : Instruction) → decode_of w ≡ Ok i → ⊥) → Given who s w (Err UnsupportedForm)
  low : (i : Instruction) → legal s.state ≡ true → decode_of w ≡ Ok i → s.state.level < level_of i → Given who s w (Err LevelTooLow)
  off : (i : Instruction) → legal s.state ≡ true → decode_of w ≡ Ok i → level_of i ≤ s.state.level → s.state.access ≡ false → Given who s w (Err AccessOff)
  not_owned : (i : Instruction) → legal s.state ≡ true → decode_of w ≡ Ok i → level_of i ≤ s.state.level → s.state.access ≡ true → may_name who (registers_of i) ≡ false → Given who s w (Err NotOwned)
  done : (i : Instruction) → legal s.state ≡ true → decode_of w ≡ Ok i → level_of i ≤ s.state.level → s.state.access ≡ true → may_name who (registers_of i) ≡ true → Given who s w (Ok tt)
