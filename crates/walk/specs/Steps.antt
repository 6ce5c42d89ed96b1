-- One instruction of a walk as a step of the machine.
use Rattle.std.specs.Prelude.{Ok}
use Rattle.std.specs.Prelude.{◌≡◌}
use Rattle.registers.specs.declared.State.{State}
use Rattle.words.specs.declared.Instruction.{Instruction}
use Rattle.words.specs.Words.{word_of, encode_of}
use Rattle.machine.specs.Execute.{execute_of}
use Rattle.machine.specs.Step.{answered, step_of}

-- instruction i, written as a word, takes the state `before` to the state `after`
pub record IsStep (i : Instruction) (before after : State) : Type 0 where
  -- its fields are within their ranges: it has a word
  pub written : encode_of i ≡ Ok (word_of i)
  -- a step accepts that word
  pub accepted : step_of before (word_of i) ≡ answered (Ok tt) after
  -- and executes it
  pub executed : after ≡ execute_of before i
