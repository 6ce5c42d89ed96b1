-- When a step gives each reply: the rows 0 to 4, 13 and 14 of the table of replies.
use Rattle.replies.specs.Reply.{Reply}
use Rattle.std.specs.Prelude.{Ok, Err}
use Rattle.std.specs.Prelude.{ℕ, ◌≤◌, ◌<◌, true, false, ◌≡◌}
use Rattle.predicates.specs.Predicate.{monotonic}
use Rattle.replies.specs.declared.Refusal.TheVariants.{ForeignWord, LevelTooLow, AccessOff, IllegalState, UnsupportedForm, NotMonotonic}
use Rattle.registers.specs.declared.State.{State}
use Rattle.registers.specs.Legal.{legal}
use Rattle.registers.specs.State.{read_p}
use Rattle.words.specs.declared.Instruction.{Instruction}
use Rattle.words.specs.declared.Instruction.TheVariants.{Wrffr}
use Rattle.words.specs.Words.{has_opcode, decode_of, level_of}
use Rattle.instructions.specs.Ffr.{accepts}
use Rattle.instructions.specs.Operands.{registers_of}
use Rattle.machine.specs.Execute.{values_of}

pub data Given (s : State) (w : ℕ) : Reply → Type 0 where
  illegal : legal s ≡ false → Given s w (Err IllegalState)
  foreign : legal s ≡ true → has_opcode w ≡ false → Given s w (Err ForeignWord)
  unsupported : legal s ≡ true → has_opcode w ≡ true → ((i : Instruction) → decode_of w ≡ Ok i → ⊥) → Given s w (Err UnsupportedForm)
  low : (i : Instruction) → legal s ≡ true → decode_of w ≡ Ok i → s.level < level_of i → Given s w (Err LevelTooLow)
  off : (i : Instruction) → legal s ≡ true → decode_of w ≡ Ok i → level_of i ≤ s.level → s.access ≡ false → Given s w (Err AccessOff)
  broken : (pn : ℕ) → legal s ≡ true → decode_of w ≡ Ok (Wrffr pn) → level_of (Wrffr pn) ≤ s.level → s.access ≡ true → monotonic (read_p s pn) ≡ false → Given s w (Err NotMonotonic)
  done : (i : Instruction) → legal s ≡ true → decode_of w ≡ Ok i → level_of i ≤ s.level → s.access ≡ true → accepts i (values_of s (registers_of i)) ≡ true → Given s w (Ok tt)
