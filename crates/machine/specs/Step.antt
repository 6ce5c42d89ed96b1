-- One step, and a run of steps.
use Rattle.std.specs.Prelude.{Result}
use Rattle.replies.specs.declared.Refusal.{Refusal}
use Rattle.replies.specs.Reply.{Reply, is_done}
use Rattle.std.specs.Prelude.{Ok, Err}
use Rattle.std.specs.Prelude.{ℕ, suc, Bool, List, [], ◌∷◌, ltb}
use Rattle.bits.specs.Choice.{pick}
use Rattle.replies.specs.declared.Refusal.TheVariants.{LevelTooLow, AccessOff, IllegalState, NotMonotonic}
use Rattle.registers.specs.declared.State.{State}
use Rattle.registers.specs.Legal.{legal}
use Rattle.words.specs.declared.Instruction.{Instruction}
use Rattle.words.specs.Words.{decode_of, level_of}
use Rattle.instructions.specs.Ffr.{accepts}
use Rattle.instructions.specs.Operands.{registers_of}
use Rattle.machine.specs.declared.Stepped.{Stepped}
use Rattle.machine.specs.declared.Ran.{Ran}
use Rattle.machine.specs.Execute.{values_of, execute_of}

-- the refusals 2, 3 and 14 of an instruction, in this order, or 0; `accepted` tells whether it takes the values that it reads
abbrev pub admission_of : Instruction → ℕ → Bool → Bool → Reply
admission_of i level access accepted = pick (ltb level (level_of i)) (Err LevelTooLow) (pick access (pick accepted (Ok tt) (Err NotMonotonic)) (Err AccessOff))

abbrev pub reply_of : State → Instruction → Reply
reply_of s i = admission_of i s.level s.access (accepts i (values_of s (registers_of i)))

abbrev pub answered : Reply → State → Stepped
answered r s = record { reply = r; state = s }

-- a word that nothing refuses is executed; a refusal returns the state that it was given
unfoldable pub after_word : State → Result Instruction Refusal → Stepped
after_word s (Err r) = answered (Err r) s
after_word s (Ok i) =
    let r = reply_of s i in
    answered r (pick (is_done r) (execute_of s i) s)

-- 4 comes first
unfoldable pub step_of : State → ℕ → Stepped
step_of s w = pick (legal s) (after_word s (decode_of w)) (answered (Err IllegalState) s)

-- the words stepped one after the other, until one is refused: `done` were executed, and `refused` is the reply to the next one, or 0 if there is none
unfoldable pub steps_of : ℕ → State → List ℕ → Ran
steps_of done s [] = record { reply = Ok tt; refused = Ok tt; done = done; state = s }
steps_of done s (w ∷ ws) =
    let t = step_of s w in
    pick (is_done t.reply) (steps_of (suc done) t.state ws) (record { reply = Ok tt; refused = t.reply; done = done; state = t.state })

-- a run refuses an illegal state, whatever the words; else it is its steps
unfoldable pub run_of : State → List ℕ → Ran
run_of s ws = pick (legal s) (steps_of 0 s ws) (record { reply = Err IllegalState; refused = Ok tt; done = 0; state = s })
