-- The counts that are kept are those of the elements, after every word; INCP and its kin add what a count over the elements gives. Assumes nothing.
use Rattle.std.specs.Prelude.{Ok}
use mathlib.Core.Bool.{Bool, true}
use mathlib.Core.List.{List}
use mathlib.Core.Path.{◌≡◌, ap}
use Prim.Native.Nat.{ℕ, ◌^◌, ◌<◌}
use native.Mathlib.Omega.{arith}
use Rattle.bits.specs.declared.Size.{Size}
use Rattle.tally.specs.Counts.{true_elements, counts_of}
use Rattle.registers.specs.declared.State.{State}
use Rattle.registers.specs.Legal.{legal}
use Rattle.registers.specs.State.{counted, read_x, read_p, read_counts}
use Rattle.registers.proofs.Legality.{legal-counted, kept_counts, kept_count}
use Rattle.words.specs.declared.Instruction.TheVariants.{IncDec, Saturating}
use Rattle.words.specs.Words.{decode_of}
use Rattle.words.proofs.RoundTrip.{written_read}
use Rattle.instructions.specs.Counts.{inc_dec_of, saturating_of}
use Rattle.instructions.specs.Instructions.{compute_of}
use Rattle.instructions.specs.Operands.{registers_of}
use Rattle.machine.specs.Execute.{values_of}
use Rattle.machine.specs.Step.{step_of, run_of}
use Rattle.machine.proofs.Ffr.{at}
use Rattle.machine.proofs.Steps.{step_kept, run_kept}

-- ---- after a step and after a run

-- a legal state stays legal, refused or not, and its counts are those that are worked out from its registers
pub step-counted : (s : State) (w : ℕ) → legal s ≡ true → counted (step_of s w).state ≡ (step_of s w).state
step-counted s w h = legal-counted (step_of s w).state (step_kept s w h)

pub run-counted : (s : State) (ws : List ℕ) → legal s ≡ true → counted (run_of s ws).state ≡ (run_of s ws).state
run-counted s ws h = legal-counted (run_of s ws).state (run_kept s ws h)

-- beside each register
pub step_counts : (s : State) (w r : ℕ) → legal s ≡ true → r < 16 → counts_of (step_of s w).state.vl (read_p (step_of s w).state r) ≡ read_counts (step_of s w).state r
step_counts s w r h l = kept_counts (step_of s w).state r (step_kept s w h) l

-- ---- INCP, DECP and the saturating forms, on a legal state

module _ (s : State) (ok : legal s ≡ true) (d : Bool) (size : Size) (pm rdn : ℕ) where
  pub inc_dec_counts : pm < 16 → compute_of (IncDec d size pm rdn) (values_of s (registers_of (IncDec d size pm rdn))) s.vl ≡ inc_dec_of d (read_x s rdn) (true_elements s.vl size (read_p s pm))
  unfolding compute_of
  inc_dec_counts l = ap (inc_dec_of d (read_x s rdn)) (kept_count s pm size ok l)

  pub saturating_counts : (u sf : Bool) → pm < 16
      → compute_of (Saturating d u sf size pm rdn) (values_of s (registers_of (Saturating d u sf size pm rdn))) s.vl ≡ saturating_of d u sf (read_x s rdn) (true_elements s.vl size (read_p s pm))
  unfolding compute_of
  saturating_counts u sf l = ap (saturating_of d u sf (read_x s rdn)) (kept_count s pm size ok l)

  -- every word that is read as one of them names one of P0 to P15
  pub inc_dec_word : (w : ℕ) → w < 2 ^ 32 → decode_of w ≡ Ok (IncDec d size pm rdn) → pm < 16
  inc_dec_word w l h = omega (arith, at (IncDec d size pm rdn) 2 (written_read w (IncDec d size pm rdn) l h).0 (omega arith))

  pub saturating-word : (u sf : Bool) (w : ℕ) → w < 2 ^ 32 → decode_of w ≡ Ok (Saturating d u sf size pm rdn) → pm < 16
  saturating-word u sf w l h = omega (arith, at (Saturating d u sf size pm rdn) 4 (written_read w (Saturating d u sf size pm rdn) l h).0 (omega arith))
