-- An instruction executed: its registers are read, its effect computed and written.
use Rattle.bits.specs.Choice.{pick}
use Rattle.registers.specs.declared.State.{State}
use Rattle.registers.specs.State.{read_x, read_p, read_counts, with_x, with_p, with_flags}
use Rattle.words.specs.declared.Instruction.{Instruction}
use Rattle.instructions.specs.declared.operands.Registers.{Registers}
use Rattle.instructions.specs.declared.operands.Values.{Values}
use Rattle.instructions.specs.Effect.{Effect}
use Rattle.instructions.specs.Instructions.{compute_of}
use Rattle.instructions.specs.Operands.{registers_of}

-- what the registers hold that are read, and the counts kept beside Pm
abbrev pub values_of : State → Registers → Values
values_of s r = record { pg = read_p s r.pg; pn = read_p s r.pn; pm = read_p s r.pm; counts = read_counts s r.pm; rn = read_x s r.rn; rm = read_x s r.rm }

-- an effect written to the registers that are written
unfoldable pub apply : State → Registers → Effect → State
apply s r e = with_p (with_p (with_x (pick r.flags (with_flags s e.flags) s) r.rd e.rd) r.pd e.pd) r.pd2 e.pd2

-- all registers are read before any is written
unfoldable pub execute_of : State → Instruction → State
execute_of s i = apply s (registers_of i) (compute_of i (values_of s (registers_of i)) s.vl)
