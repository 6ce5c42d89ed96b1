-- An instruction executed, from what each part of the code gives. Assumes nothing.
use mathlib.Core.Bool.{Bool, true, false}
use mathlib.Core.List.{List}
use mathlib.Core.Path.{◌≡◌, refl, ap, ◌∙◌}
use Prim.Native.Nat.{ℕ}
use lib.ListN.{set}
use Rattle.bits.specs.Choice.{pick}
use Rattle.predicates.specs.declared.Flags.{Flags}
use Rattle.predicates.specs.declared.Predicate.{Predicate}
use Rattle.predicates.specs.PredTest.{flags_of}
use Rattle.predicates.proofs.Flagging.{flags_back}
use Rattle.registers.specs.declared.State.{State}
use Rattle.registers.specs.declared.parts.Settings.{Settings}
use Rattle.tally.specs.declared.Counts.{Counts}
use Rattle.tally.specs.Counts.{counts_of}
use Rattle.registers.specs.Parts.{predicates_of, counts_from, flags_from, state_at}
use Rattle.registers.specs.State.{assembled, with_x, with_p, with_flags}
use Rattle.words.specs.declared.Instruction.{Instruction}
use Rattle.instructions.specs.declared.operands.Registers.{Registers}
use Rattle.instructions.specs.declared.operands.Values.{Values}
use Rattle.instructions.specs.declared.effect.Computed.{Computed}
use Rattle.instructions.specs.Effect.{Effect, computed, effect_in}
use Rattle.instructions.specs.Instructions.{compute_of}
use Rattle.instructions.specs.Operands.{registers_of}
use Rattle.machine.specs.Execute.{values_of, apply, execute_of}

-- the number NZCV stands for the flags
pub effect_back : (e : Effect) → effect_in (computed e) ≡ e
effect_back e = λ i. record { rd = e.rd; pd = e.pd; pd2 = e.pd2; flags = flags_back e.flags i }

pub executes : (s t : State) (i : Instruction) (r : Registers) (v : Values) (e : Computed) → r ≡ registers_of i → v ≡ values_of s r → e ≡ computed (compute_of i v s.vl)
    → t ≡ apply s r (effect_in e) → t ≡ execute_of s i
unfolding execute_of
executes s t i r v e hr hv he ht =
    ht ∙ ap (λ (c : Computed). apply s r (effect_in c)) he ∙ ap (apply s r) (effect_back (compute_of i v s.vl))
    ∙ ap (λ (u : Values). apply s r (compute_of i u s.vl)) hv ∙ ap (λ (q : Registers). apply s q (compute_of i (values_of s q) s.vl)) hr

-- the same where values were read whatever the settings and flags
pub executes_in : (s : Settings) (f : List Bool) (x : List ℕ) (p c : List (List ℕ)) (t : State) (i : Instruction) (r : Registers) (v : Values) (e : Computed) → r ≡ registers_of i
    → ((u : Settings) → (g : List Bool) → v ≡ values_of (state_at u g x p c) r) → e ≡ computed (compute_of i v s.vl) → t ≡ apply (state_at s f x p c) r (effect_in e) → t ≡ execute_of (state_at s f x p c) i
executes_in s f x p c t i r v e hr hv he ht = executes (state_at s f x p c) t i r v e hr (hv s f) he ht

-- ---- an effect, written part by part

pub written : (s : Settings) (f g : List Bool) (x y : List ℕ) (p q o c k l : List (List ℕ)) (r : Registers) (e : Computed)
    → flags_from g ≡ pick r.flags (flags_of e.nzcv) (flags_from f) → y ≡ set x r.rd e.rd
    → predicates_of q ≡ set (predicates_of p) r.pd e.pd → predicates_of o ≡ set (predicates_of q) r.pd2 e.pd2
    → counts_from k ≡ set (counts_from c) r.pd (counts_of s.vl e.pd) → counts_from l ≡ set (counts_from k) r.pd2 (counts_of s.vl e.pd2)
    → state_at s g y o l ≡ apply (state_at s f x p c) r (effect_in e)
unfolding apply with_p with_x with_flags
written s f g x y p q o c k l r e hf hx hq ho hk hl =
    (λ i. state (hf i) (hx i) ((ho ∙ ap (λ (z : List Predicate). set z r.pd2 e.pd2) hq) i) ((hl ∙ ap (λ (z : List Counts). set z r.pd2 (counts_of s.vl e.pd2)) hk) i)) ∙ go r.flags
  where
    state : Flags → List ℕ → List Predicate → List Counts → State
    state k y z u = assembled s.vl s.level s.access k y z u

    go : (b : Bool)
        → state (pick b (flags_of e.nzcv) (flags_from f)) (set x r.rd e.rd) (set (set (predicates_of p) r.pd e.pd) r.pd2 e.pd2)
        (set (set (counts_from c) r.pd (counts_of s.vl e.pd)) r.pd2 (counts_of s.vl e.pd2))
        ≡ with_p (with_p (with_x (pick b (with_flags (state_at s f x p c) (flags_of e.nzcv)) (state_at s f x p c)) r.rd e.rd) r.pd e.pd) r.pd2 e.pd2
    go true = refl
    go false = refl
