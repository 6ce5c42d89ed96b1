-- A counter that an executed WHILE leaves in its register reads, at the state's vector length, as it would with a count up to bit 14. Assumes nothing.
use mathlib.Core.Bool.{Bool, true}
use mathlib.Core.Path.{◌≡◌, sym, ◌∙◌, subst}
use Prim.Native.Nat.{ℕ, ◌+◌, ◌<◌}
use native.Mathlib.Omega.{arith}
use Rattle.bits.specs.declared.Size.{Size}
use Rattle.predicates.specs.declared.Predicate.{Predicate}
use Rattle.registers.specs.declared.State.{State}
use Rattle.registers.specs.Legal.{legal}
use Rattle.registers.specs.State.{read_x, read_p, with_x, with_flags}
use Rattle.registers.proofs.Legality.{legal_has, legal_sized, powers}
use Rattle.registers.proofs.Registers.{read_p-same, read_p-other}
use Rattle.scalars.specs.declared.Condition.{Condition}
use Rattle.words.specs.declared.Instruction.TheVariants.{While}
use Rattle.words.specs.declared.Target.TheVariants.{Counter}
use Rattle.instructions.specs.Counter.{expanded, while_counter_of}
use Rattle.instructions.specs.Instructions.{compute_of}
use Rattle.instructions.specs.Operands.{none}
use Rattle.instructions.specs.Readings.{expanded_to14}
use Rattle.instructions.proofs.Readings.{while_alike}
use Rattle.machine.specs.Execute.{apply, execute_of}

module _ (s : State) (ok : legal s ≡ true) (c : Condition) (unsigned four : Bool) (size : Size) (rn rm pnd : ℕ) (small : pnd < 8) where
  abbrev after : State
  after = execute_of s (While c unsigned (Counter four pnd) size rn rm)

  -- what WHILE gives at a vector length
  abbrev given : ℕ → Predicate
  given vl = (while_counter_of c unsigned four size (read_x s rn) (read_x s rm) vl).pd

  -- the register has it
  counter-written : read_p after (8 + pnd) ≡ given s.vl
  unfolding execute_of apply compute_of with_x with_flags
  counter-written = read_p-other _ none (8 + pnd) _ (omega arith) ∙ read_p-same _ (8 + pnd) _ (omega (arith, (legal_sized s ok).ps))

  pub counter-reads_alike : (b : ℕ) → expanded_to14 s.vl (read_p after (8 + pnd)) b ≡ expanded s.vl (read_p after (8 + pnd)) b
  counter-reads_alike b =
      let (i, e, l) = powers s.vl (legal_has s ok).len in
      rw counter-written (subst (λ v. expanded_to14 v (given v) b ≡ expanded v (given v) b) (sym e) (while_alike i l c unsigned four size (read_x s rn) (read_x s rm) b))
