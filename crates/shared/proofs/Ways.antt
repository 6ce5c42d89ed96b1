-- By way of the ordinary step and walk, as the code goes: those of the state with the kernel's flags; and where a register is not the kernel's, 15 for a reply that stands after it. Assumes nothing.
use Rattle.std.specs.Prelude.{Result}
use Rattle.replies.specs.declared.Refusal.{Refusal}
use Rattle.replies.specs.Reply.{Reply, number_of, is_done}
use Rattle.std.specs.Prelude.{Ok, Err}
use mathlib.Core.Bool.{Bool, true, false, not}
use mathlib.Core.List.{List}
use mathlib.Core.Path.{◌≡◌, refl, sym, ap, ap₂, ◌∙◌}
use Prim.Native.Nat.{ℕ}
use native.Mathlib.Omega.{arith}
use lib.Dec.{ltb, eqb}
use lib.ListN.{length}
use Rattle.bits.specs.Choice.{pick}
use Rattle.bits.proofs.Searches.{never}
use Rattle.replies.specs.declared.Refusal.TheVariants.{LevelTooLow, AccessOff, IllegalState, BadWalkRegisters, ListTooShort, NotMonotonic, NotOwned}
use Rattle.registers.specs.declared.State.{State}
use Rattle.registers.specs.Legal.{legal}
use Rattle.registers.specs.State.{with_flags}
use Rattle.registers.proofs.Legality.{with_flags-legal}
use Rattle.words.specs.declared.Instruction.{Instruction}
use Rattle.words.specs.Words.{decode_of, level_of}
use Rattle.instructions.specs.declared.operands.Values.{Values}
use Rattle.instructions.specs.Ffr.{accepts}
use Rattle.instructions.specs.Operands.{registers_of}
use Rattle.instructions.proofs.FfrLaws.{refuses}
use Rattle.machine.specs.declared.Stepped as Machine'
use Rattle.machine.specs.Execute.{values_of, execute_of}
use Rattle.machine.specs.Step as Machine
use Rattle.machine.proofs.Steps.{pick_yes, pick_no, step-legal}
use Rattle.walk.specs.Plain.{begin}
use Rattle.walk.specs.Walk as Walk
use Rattle.shared.specs.declared.Kernel.{Kernel}
use Rattle.shared.specs.declared.Kernel.TheVariants.{First, Second}
use Rattle.shared.specs.declared.Shared.{Shared}
use Rattle.shared.specs.declared.Stepped.{Stepped}
use Rattle.shared.specs.Inside.{may_step, stands_after, barred}
use Rattle.shared.specs.Ownership.{may_name_p, may_name, may_walk}
use Rattle.shared.specs.Shared.{flags_for, state_for, shared_after, after_word, step_of, refusal_of, plain_of, walked_for, walk_of, list_of}
use Rattle.shared.proofs.Naming.{nobodys}
use Rattle.shared.proofs.Same.{all_named}
use Rattle.shared.proofs.Acting.{barred-refusal}

-- ---- whose flags stand where

-- what a kernel leaves is what it has next
pub left_has : (who : Kernel) (s : Shared) (t : State) → state_for who (shared_after who s t) ≡ t
unfolding state_for shared_after with_flags
left_has First s t = refl
left_has Second s t = refl

-- what it has, left as it is, changes nothing
pub left_alone : (who : Kernel) (s : Shared) → shared_after who s (state_for who s) ≡ s
unfolding state_for shared_after with_flags
left_alone First s = refl
left_alone Second s = refl

-- flags do not bear on legality
pub for_legal : (who : Kernel) (s : Shared) → legal (state_for who s) ≡ legal s.state
unfolding state_for
for_legal who s = with_flags-legal s.state (flags_for who s)

-- what is done is no refusal
done_is : (r : Reply) → is_done r ≡ true → r ≡ Ok tt
done_is (Ok tt) e = refl
done_is (Err r) e = never e refl

-- ---- replies where a register is not the kernel's

pub barred_15 : (r : Reply) (t : Bool) → t ≡ stands_after r → t ≡ true → (Err NotOwned) ≡ barred r
barred_15 r t e h = sym (ap (λ (b : Bool). pick b (Err NotOwned) r) (sym e ∙ h))

pub barred_before : (r : Reply) (t : Bool) → t ≡ stands_after r → t ≡ false → r ≡ barred r
barred_before r t e h = sym (ap (λ (b : Bool). pick b (Err NotOwned) r) (sym e ∙ h))

-- it is never 0
pub barred_done : (r : Reply) → barred r ≡ Ok tt → ⊥
unfolding stands_after
barred_done r e = go (stands_after r) refl
  where
    go : (b : Bool) → stands_after r ≡ b → ⊥
    go true h = let z : ◌≡◌ {A = ℕ} 15 0 = ap number_of (barred_15 r true (sym h) refl ∙ e) in omega arith
    go false h = let d : r ≡ (Ok tt) = barred_before r false (sym h) refl ∙ e in never (ap stands_after d) h

-- WRFFR touches FFR, which no kernel may name: what a kernel may name is refused for no value
takes : (who : Kernel) (i : Instruction) (v : Values) → may_name who (registers_of i) ≡ true → accepts i v ≡ true
takes who i v h = go (accepts i v) refl
  where
    go : (b : Bool) → accepts i v ≡ b → accepts i v ≡ true
    go true e = e
    go false e =
        let (pn, is, n) = refuses i v e in
        let named : may_name_p who (registers_of i).pd ≡ true = (all_named who (registers_of i) h).pd in
        never (ap (λ (j : Instruction). may_name_p who (registers_of j).pd) (sym is) ∙ named) (nobodys who)

-- ---- a step

module _ (who : Kernel) (s : Shared) where
  abbrev has : State
  has = state_for who s

  -- the ordinary step's answer, as a kernel has it
  abbrev pub stepped_for : Machine'.Stepped → Stepped
  stepped_for t = record { reply = t.reply; shared = shared_after who s t.state }

  -- one that leaves the state as it was
  stays : (r : Reply) → record { reply = r; shared = s } ≡ stepped_for (Machine.answered r has)
  stays r = ap (λ (t : Shared). record { reply = r; shared = t }) (sym (left_alone who s))

  -- 2, 3, 15 and 0 of a kernel, and 2, 3, 14 and 0 of the ordinary step
  abbrev kernels : (low on may : Bool) → Reply
  kernels low on may = pick low (Err LevelTooLow) (pick (not on) (Err AccessOff) (pick (not may) (Err NotOwned) (Ok tt)))

  abbrev machines : (low on monotone : Bool) → Reply
  machines low on monotone = pick low (Err LevelTooLow) (pick on (pick monotone (Ok tt) (Err NotMonotonic)) (Err AccessOff))

  abbrev answer : Instruction → Reply → Stepped
  answer i r = record { reply = r; shared = pick (is_done r) (shared_after who s (execute_of has i)) s }

  after_may : (d : Result Instruction Refusal) → may_step who d ≡ true → after_word who s d ≡ stepped_for (Machine.after_word has d)
  unfolding may_step after_word Machine.after_word state_for with_flags
  after_may (Err e) h = stays (Err e)
  after_may (Ok i) h =
      let v = values_of has (registers_of i) in
      go (ltb s.state.level (level_of i)) s.state.access (may_name who (registers_of i)) (accepts i v) h (takes who i v h)
    where
      go : (low on may monotone : Bool) → may ≡ true → monotone ≡ true
          → answer i (kernels low on may) ≡ stepped_for (Machine.answered (machines low on monotone) (pick (is_done (machines low on monotone)) (execute_of has i) has))
      go true on may monotone m t = stays (Err LevelTooLow)
      go false false may monotone m t = stays (Err AccessOff)
      go false true true true m t = refl
      go false true true false m t = never t refl
      go false true false monotone m t = never m refl

  -- where a register is not the kernel's, the ordinary reply with 15 in its place
  abbrev barring : Machine'.Stepped → Stepped
  barring t = record { reply = barred t.reply; shared = s }

  after-not : (d : Result Instruction Refusal) → may_step who d ≡ false → after_word who s d ≡ barring (Machine.after_word has d)
  unfolding may_step stands_after after_word Machine.after_word state_for with_flags
  after-not (Err r) h = never refl h
  after-not (Ok i) h = go (ltb s.state.level (level_of i)) s.state.access (may_name who (registers_of i)) (accepts i (values_of has (registers_of i))) h
    where
      go : (low on may monotone : Bool) → may ≡ false → answer i (kernels low on may) ≡ barring (Machine.answered (machines low on monotone) has)
      go true on may monotone m = refl
      go false false may monotone m = refl
      go false true false true m = refl
      go false true false false m = refl
      go false true true monotone m = never refl m

  module _ (w : ℕ) where
    pub step_after : legal s.state ≡ true → step_of who s w ≡ after_word who s (decode_of w)
    unfolding step_of
    step_after h = pick_yes _ _ _ h

    pub step-illegal : legal s.state ≡ false → step_of who s w ≡ record { reply = Err IllegalState; shared = s }
    unfolding step_of
    step-illegal h = pick_no _ _ _ h

    illegal : legal s.state ≡ false → Machine.step_of has w ≡ Machine.answered (Err IllegalState) has
    unfolding Machine.step_of
    illegal h = pick_no _ _ _ (for_legal who s ∙ h)

    pub step_may : may_step who (decode_of w) ≡ true → step_of who s w ≡ stepped_for (Machine.step_of has w)
    step_may m = go (legal s.state) refl
      where
        go : (b : Bool) → legal s.state ≡ b → step_of who s w ≡ stepped_for (Machine.step_of has w)
        go true h = step_after h ∙ after_may (decode_of w) m ∙ ap stepped_for (sym (step-legal has w (for_legal who s ∙ h)))
        go false h = step-illegal h ∙ stays (Err IllegalState) ∙ ap stepped_for (sym (illegal h))

    pub step-not : may_step who (decode_of w) ≡ false → step_of who s w ≡ record { reply = barred (Machine.step_of has w).reply; shared = s }
    unfolding stands_after
    step-not m = go (legal s.state) refl
      where
        go : (b : Bool) → legal s.state ≡ b → step_of who s w ≡ barring (Machine.step_of has w)
        go true h = step_after h ∙ after-not (decode_of w) m ∙ ap barring (sym (step-legal has w (for_legal who s ∙ h)))
        go false h = step-illegal h ∙ ap barring (sym (illegal h))

-- ---- a walk

module _ (who : Kernel) (size n m d k : ℕ) (s : Shared) where
  -- 4, 10, 2, 3, 15 and 11, of a state and an owner of which it is known whether they are in order
  abbrev order : ℕ → Bool → Bool → Reply
  order places ok may =
      pick (not ok) (Err IllegalState)
      (pick (Walk.bad_registers size n m d k) (Err BadWalkRegisters)
      (pick (eqb s.state.level 0) (Err LevelTooLow)
      (pick (not s.state.access) (Err AccessOff)
      (pick (not may) (Err NotOwned)
      (pick (ltb places (Walk.distance n m s.state)) (Err ListTooShort) (Ok tt))))))

  pub refusal_may : may_walk who n m d k ≡ true → (places : ℕ) → refusal_of who size n m d k s places ≡ Walk.refusal_of size n m d k (state_for who s) places
  unfolding refusal_of Walk.refusal_of state_for with_flags
  refusal_may h places = ap₂ (order places) (sym (for_legal who s)) h

  pub refusal-not : may_walk who n m d k ≡ false → (places : ℕ) → refusal_of who size n m d k s places ≡ barred (Walk.refusal_of size n m d k (state_for who s) places)
  unfolding refusal_of state_for with_flags
  refusal-not h places = ap₂ (order places) (sym (for_legal who s)) h ∙ sym (barred-refusal size n m d k places (state_for who s))

  pub walk-illegal : legal s.state ≡ false → (places : ℕ) → refusal_of who size n m d k s places ≡ Err IllegalState
  unfolding refusal_of
  walk-illegal h places = pick_yes _ _ _ (ap not h)

module _ (who : Kernel) (size n m d k budget : ℕ) (s : Shared) (l : List ℕ) where
  abbrev refused : Reply
  refused = refusal_of who size n m d k s (length l)

  abbrev ordinary : Reply
  ordinary = Walk.refusal_of size n m d k (state_for who s) (length l)

  pub walk_refused : is_done (refusal_of who size n m d k s (length l)) ≡ false → walk_of who size n m d k budget s l ≡ record { reply = refusal_of who size n m d k s (length l); count = 0; visited = 0; shared = s }
  unfolding walk_of
  walk_refused h = pick_no _ _ _ h

  pub list_refused : is_done (refusal_of who size n m d k s (length l)) ≡ false → list_of who size n m d k budget s l ≡ l
  unfolding list_of
  list_refused h = pick_no _ _ _ h

  pub walk_may : may_walk who n m d k ≡ true → walk_of who size n m d k budget s l ≡ walked_for who s (Walk.walk_of size n m d k budget (state_for who s) l)
  unfolding walk_of Walk.walk_of Walk.whole_of
  walk_may h =
      ap (λ (r : Reply). pick (is_done r) (walked_for who s (Walk.walked (plain_of who size n m d k budget s l))) (record { reply = r; count = 0; visited = 0; shared = s })) (refusal_may who size n m d k s h (length l))
      ∙ go (is_done ordinary)
    where
      go : (b : Bool)
          → pick b (walked_for who s (Walk.walked (plain_of who size n m d k budget s l))) (record { reply = ordinary; count = 0; visited = 0; shared = s })
          ≡ walked_for who s
          (pick b (Walk.walked (pick b (plain_of who size n m d k budget s l) (begin (state_for who s) l))) (record { reply = ordinary; count = 0; visited = 0; state = state_for who s }))
      go true = refl
      go false = ap (λ (t : Shared). record { reply = ordinary; count = 0; visited = 0; shared = t }) (sym (left_alone who s))

  -- a reply in whose place 15 may stand is no 0
  barred-refused : may_walk who n m d k ≡ false → is_done (refusal_of who size n m d k s (length l)) ≡ false
  barred-refused h = go (is_done refused) refl
    where
      go : (b : Bool) → is_done refused ≡ b → is_done refused ≡ false
      go true e = absurd (barred_done ordinary (sym (refusal-not who size n m d k s h (length l)) ∙ done_is refused e))
      go false e = e

  pub walk-not : may_walk who n m d k ≡ false
      → walk_of who size n m d k budget s l ≡ record { reply = barred (Walk.refusal_of size n m d k (state_for who s) (length l)); count = 0; visited = 0; shared = s }
  walk-not h = walk_refused (barred-refused h) ∙ ap (λ (r : Reply). record { reply = r; count = 0; visited = 0; shared = s }) (refusal-not who size n m d k s h (length l))

  pub list_may : may_walk who n m d k ≡ true → list_of who size n m d k budget s l ≡ (Walk.whole_of size n m d k budget (state_for who s) l).list
  unfolding list_of Walk.whole_of
  list_may h =
      ap (λ (r : Reply). pick (is_done r) (plain_of who size n m d k budget s l).list l) (refusal_may who size n m d k s h (length l))
      ∙ go (is_done ordinary)
    where
      go : (b : Bool) → pick b (plain_of who size n m d k budget s l).list l ≡ (pick b (plain_of who size n m d k budget s l) (begin (state_for who s) l)).list
      go true = refl
      go false = refl

  pub list_not : may_walk who n m d k ≡ false → list_of who size n m d k budget s l ≡ l
  list_not h = list_refused (barred-refused h)
