-- For private functions alone: a kernel's reply by way of the ordinary one, in whose place 15 may stand. No public contract cites these.
use Rattle.std.specs.Prelude.{Result}
use Rattle.std.specs.Prelude.{Ok}
use Rattle.replies.specs.declared.Refusal.{Refusal}
use Rattle.words.specs.declared.Instruction.{Instruction}
use Rattle.replies.specs.Reply.{Reply, number_of, is_done}
use Rattle.std.specs.Prelude.{Err}
use Rattle.std.specs.Prelude.{Bool, true, ◌||◌, eqb}
use Rattle.bits.specs.Choice.{pick}
use Rattle.replies.specs.declared.Refusal.TheVariants.{NotOwned}
use Rattle.instructions.specs.Operands.{registers_of}
use Rattle.shared.specs.declared.Kernel.{Kernel}
use Rattle.shared.specs.Ownership.{may_name}

-- a word that is no instruction names nothing
unfoldable pub may_step : Kernel → Result Instruction Refusal → Bool
may_step who (Err r) = true
may_step who (Ok i) = may_name who (registers_of i)

-- 15 stands before 14 of a word, before 11 of a walk, and before 0; every other refusal stands before it
unfoldable pub stands_after : Reply → Bool
stands_after r = is_done r || (eqb (number_of r) 14 || eqb (number_of r) 11)

-- an ordinary reply where a register is not the kernel's: 15, or the one that stands before it
abbrev pub barred : Reply → Reply
barred r = pick (stands_after r) (Err NotOwned) r
