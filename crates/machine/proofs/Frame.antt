-- An instruction changes no register that it does not name as written. Assumes nothing.
use mathlib.Core.Bool.{Bool, true, false}
use mathlib.Core.List.{List}
use mathlib.Core.Path.{◌≡◌, refl, ap, ◌∙◌}
use Prim.Native.Nat.{ℕ}
use lib.ListN.{get_or, set, length, length-set}
use Rattle.bits.specs.Choice.{pick}
use Rattle.predicates.specs.declared.Flags.{Flags}
use Rattle.predicates.specs.declared.Predicate.{Predicate}
use Rattle.predicates.specs.Predicate.{all_false}
use Rattle.registers.specs.declared.State.{State}
use Rattle.tally.specs.declared.Counts.{Counts}
use Rattle.tally.specs.Counts.{no_counts}
use Rattle.registers.specs.State.{read_x, read_p, read_counts, with_x, with_p, with_flags}
use Rattle.registers.proofs.Registers.{Sized, read_x-other, read_p-other, read_counts-other}
use Rattle.words.specs.declared.Instruction.{Instruction}
use Rattle.instructions.specs.declared.operands.Registers.{Registers}
use Rattle.instructions.specs.Effect.{Effect}
use Rattle.instructions.specs.Instructions.{compute_of}
use Rattle.instructions.specs.Operands.{registers_of}
use Rattle.machine.specs.Execute.{values_of, apply, execute_of}
use Rattle.machine.specs.Frame.{SameSettings, Untouched}

-- a state with flags set or kept is as it was but for them
pub record Beside (s t : State) : Type 0 where
  pub vl : t.vl ≡ s.vl
  pub level : t.level ≡ s.level
  pub access : t.access ≡ s.access
  pub x : t.x ≡ s.x
  pub p : t.p ≡ s.p
  pub counts : t.counts ≡ s.counts

pub beside_flags : (s : State) (sets : Bool) (f : Flags) → Beside s (pick sets (with_flags s f) s)
unfolding with_flags
beside_flags s true f = record { vl = refl; level = refl; access = refl; x = refl; p = refl; counts = refl }
beside_flags s false f = record { vl = refl; level = refl; access = refl; x = refl; p = refl; counts = refl }

module _ (s : State) (r : Registers) (e : Effect) where
  abbrev flagged : State
  flagged = pick r.flags (with_flags s e.flags) s

  keeps_settings : SameSettings s (apply s r e)
  unfolding apply with_x with_p
  keeps_settings = let k = beside_flags s r.flags e.flags in record { vl = k.vl; level = k.level; access = k.access }

  keeps_x : (n : ℕ) → (n ≡ r.rd → ⊥) → read_x (apply s r e) n ≡ read_x s n
  unfolding apply with_p
  keeps_x n h = read_x-other flagged r.rd n e.rd h ∙ ap (λ (l : List ℕ). get_or l n 0) (beside_flags s r.flags e.flags).x

  below_p : (n : ℕ) → read_p (with_x flagged r.rd e.rd) n ≡ read_p s n
  unfolding with_x
  below_p n = ap (λ (l : List Predicate). get_or l n all_false) (beside_flags s r.flags e.flags).p

  keeps_p : (n : ℕ) → (n ≡ r.pd → ⊥) → (n ≡ r.pd2 → ⊥) → read_p (apply s r e) n ≡ read_p s n
  unfolding apply
  keeps_p n h k =
      let t = with_x flagged r.rd e.rd in
      read_p-other (with_p t r.pd e.pd) r.pd2 n e.pd2 k ∙ read_p-other t r.pd n e.pd h ∙ below_p n

  below_counts : (n : ℕ) → read_counts (with_x flagged r.rd e.rd) n ≡ read_counts s n
  unfolding with_x
  below_counts n = ap (λ (l : List Counts). get_or l n no_counts) (beside_flags s r.flags e.flags).counts

  keeps_counts : (n : ℕ) → (n ≡ r.pd → ⊥) → (n ≡ r.pd2 → ⊥) → read_counts (apply s r e) n ≡ read_counts s n
  unfolding apply
  keeps_counts n h k =
      let t = with_x flagged r.rd e.rd in
      read_counts-other (with_p t r.pd e.pd) r.pd2 n e.pd2 k ∙ read_counts-other t r.pd n e.pd h ∙ below_counts n

  keeps_flags : r.flags ≡ false → (apply s r e).flags ≡ s.flags
  unfolding apply with_x with_p
  keeps_flags h = ap (λ (b : Bool). (pick b (with_flags s e.flags) s).flags) h

  pub apply_untouched : Untouched s (apply s r e) r
  apply_untouched = record { settings = keeps_settings; x = keeps_x; p = keeps_p; counts = keeps_counts; flags = keeps_flags }

  -- the number of registers never changes
  pub apply_sized : Sized s → Sized (apply s r e)
  unfolding apply with_x with_p
  apply_sized h =
      let k = beside_flags s r.flags e.flags in
      record {
        xs = length-set flagged.x r.rd e.rd ∙ ap (λ (l : List ℕ). length l) k.x ∙ h.xs;
        ps = length-set (set flagged.p r.pd e.pd) r.pd2 e.pd2 ∙ length-set flagged.p r.pd e.pd ∙ ap (λ (l : List Predicate). length l) k.p ∙ h.ps;
        cs = length-set (set flagged.counts r.pd _) r.pd2 _ ∙ length-set flagged.counts r.pd _ ∙ ap (λ (l : List Counts). length l) k.counts ∙ h.cs;
      }

pub untouched : (s : State) (i : Instruction) → Untouched s (execute_of s i) (registers_of i)
unfolding execute_of
untouched s i = apply_untouched s (registers_of i) (compute_of i (values_of s (registers_of i)) s.vl)
