-- Each reply of a step is given exactly when the table says, and what follows of the state. Assumes nothing.
use Rattle.std.specs.Prelude.{Result}
use Rattle.replies.specs.declared.Refusal.{Refusal}
use Rattle.replies.specs.Reply.{Reply, is_done}
use Rattle.std.specs.Prelude.{Ok, Err}
use mathlib.Core.Bool.{Bool, true, false}
use mathlib.Core.Logic.{◌↔◌}
use mathlib.Core.Path.{◌≡◌, refl, sym, ap, ◌∙◌, subst}
use Prim.Native.Nat.{ℕ, ◌≤◌, ◌<◌}
use native.Mathlib.Decide.{dec_lt}
use native.Mathlib.Omega.{arith}
use borrow.Author.Tests.{lt-ltb, le-ltb}
use Rattle.bits.specs.Choice.{pick}
use Rattle.predicates.specs.Predicate.{monotonic}
use Rattle.replies.specs.declared.Refusal.TheVariants.{ForeignWord, LevelTooLow, AccessOff, IllegalState, UnsupportedForm, NotMonotonic, BadWalkRegisters, BudgetSpent, BufferTooSmall, FieldPastRange, ImageCut, ListTooShort, NotAllowed, NotOwned, TrailingBytes}
use Rattle.registers.specs.declared.State.{State}
use Rattle.registers.specs.Legal.{legal}
use Rattle.registers.specs.State.{read_p}
use Rattle.words.specs.declared.Instruction.{Instruction}
use Rattle.words.specs.declared.Instruction.TheVariants.{Wrffr}
use Rattle.words.specs.Words.{has_opcode, decode_of, word_of, in_range, level_of}
use Rattle.words.proofs.RoundTrip.{read-written}
use Rattle.words.proofs.Refusals.{foreign_read, unread}
use Rattle.instructions.specs.Ffr.{accepts}
use Rattle.instructions.specs.Operands.{registers_of}
use Rattle.instructions.proofs.FfrLaws.{refuses}
use Rattle.machine.specs.declared.Stepped.{Stepped}
use Rattle.machine.specs.Execute.{values_of, execute_of}
use Rattle.machine.specs.Given.{Given}
use Rattle.machine.specs.Given.Given.{illegal, foreign, unsupported, low, off, broken, done}
use Rattle.machine.specs.Step.{reply_of, answered, after_word, step_of}
use Rattle.machine.specs.Frame.{Untouched}
use Rattle.machine.proofs.Frame.{untouched}
use Rattle.machine.proofs.Steps.{pick_yes, pick_no, step-legal, step_leaves}

-- a word that is refused is no instruction
refused≢ours : {r : Refusal} {i : Instruction} → Err r ≡ Ok i → ⊥
refused≢ours e = let z : ◌≡◌ {A = ℕ} 0 1 = cc in omega arith

-- ---- the reply of a legal state's step, from what the word is

module _ (s : State) (w : ℕ) (ok : legal s ≡ true) where
  refused_is : (r : Refusal) → decode_of w ≡ Err r → step_of s w ≡ answered (Err r) s
  unfolding after_word
  refused_is r h = step-legal s w ok ∙ ap (after_word s) h

  module _ (i : Instruction) (ours : decode_of w ≡ Ok i) where
    ours_is : step_of s w ≡ after_word s (Ok i)
    ours_is = step-legal s w ok ∙ ap (after_word s) ours

    reply_is : (r : Reply) → reply_of s i ≡ r → step_of s w ≡ answered r (pick (is_done r) (execute_of s i) s)
    unfolding after_word
    reply_is r e = ours_is ∙ ap (λ (q : Reply). answered q (pick (is_done q) (execute_of s i) s)) e

    too_low : s.level < level_of i → reply_of s i ≡ Err LevelTooLow
    too_low l = pick_yes _ _ _ (lt-ltb s.level (level_of i) l)

    by_access : (b : Bool) → s.access ≡ b → level_of i ≤ s.level → reply_of s i ≡ pick b (pick (accepts i (values_of s (registers_of i))) (Ok tt) (Err NotMonotonic)) (Err AccessOff)
    by_access b e l = pick_no _ _ _ (le-ltb s.level (level_of i) l) ∙ ap (λ (t : Bool). pick t (pick (accepts i (values_of s (registers_of i))) (Ok tt) (Err NotMonotonic)) (Err AccessOff)) e

    by_value : (b : Bool) → accepts i (values_of s (registers_of i)) ≡ b → s.access ≡ true → level_of i ≤ s.level → reply_of s i ≡ pick b (Ok tt) (Err NotMonotonic)
    by_value b e a l = by_access true a l ∙ ap (λ (t : Bool). pick t (Ok tt) (Err NotMonotonic)) e

illegal_is : (s : State) (w : ℕ) → legal s ≡ false → step_of s w ≡ answered (Err IllegalState) s
unfolding step_of
illegal_is s w h = pick_no _ _ _ h

-- ---- exactly when

-- a reply that the table gives is the step's
pub given_reply : (s : State) (w : ℕ) (r : Reply) → Given s w r → (step_of s w).reply ≡ r
given_reply s w (Err IllegalState) (illegal h) = ap (λ (t : Stepped). t.reply) (illegal_is s w h)
given_reply s w (Err ForeignWord) (foreign ok h) = ap (λ (t : Stepped). t.reply) (refused_is s w ok ForeignWord ((foreign_read w).1 h))
given_reply s w (Err UnsupportedForm) (unsupported ok h k) = ap (λ (t : Stepped). t.reply) (refused_is s w ok UnsupportedForm (unread w h k))
given_reply s w (Err LevelTooLow) (low i ok h l) = ap (λ (t : Stepped). t.reply) (reply_is s w ok i h (Err LevelTooLow) (too_low s w ok i h l))
given_reply s w (Err AccessOff) (off i ok h l a) = ap (λ (t : Stepped). t.reply) (reply_is s w ok i h (Err AccessOff) (by_access s w ok i h false a l))
given_reply s w (Err NotMonotonic) (broken pn ok h l a m) = ap (λ (t : Stepped). t.reply) (reply_is s w ok (Wrffr pn) h (Err NotMonotonic) (by_value s w ok (Wrffr pn) h false m a l))
given_reply s w (Ok tt) (done i ok h l a m) = ap (λ (t : Stepped). t.reply) (reply_is s w ok i h (Ok tt) (by_value s w ok i h true m a l))
given_reply s w (Err ImageCut) none = elim none [ ]
given_reply s w (Err NotAllowed) none = elim none [ ]
given_reply s w (Err TrailingBytes) none = elim none [ ]
given_reply s w (Err BufferTooSmall) none = elim none [ ]
given_reply s w (Err FieldPastRange) none = elim none [ ]
given_reply s w (Err BadWalkRegisters) none = elim none [ ]
given_reply s w (Err ListTooShort) none = elim none [ ]
given_reply s w (Err BudgetSpent) none = elim none [ ]
given_reply s w (Err NotOwned) none = elim none [ ]

-- and one of its rows applies
row : (s : State) (w : ℕ) → (r : Reply) × Given s w r
row s w = by_legality (legal s) refl
  where
    by_value' : (i : Instruction) → legal s ≡ true → decode_of w ≡ Ok i → level_of i ≤ s.level → s.access ≡ true → (b : Bool) → accepts i (values_of s (registers_of i)) ≡ b → (r : Reply) × Given s w r
    by_value' i ok h l a true m = (Ok tt, done i ok h l a m)
    by_value' i ok h l a false m =
        let (pn, e, n) = refuses i (values_of s (registers_of i)) m in
        let same : read_p s (registers_of i).pn ≡ read_p s pn = ap (λ (k : Instruction). read_p s (registers_of k).pn) e in
        (Err NotMonotonic, broken pn ok (h ∙ ap Ok e) (let q : level_of i ≡ level_of (Wrffr pn) = ap level_of e in omega arith) a (sym (ap monotonic same) ∙ n))

    by_access' : (i : Instruction) → legal s ≡ true → decode_of w ≡ Ok i → level_of i ≤ s.level → (b : Bool) → s.access ≡ b → (r : Reply) × Given s w r
    by_access' i ok h l true a = by_value' i ok h l a (accepts i (values_of s (registers_of i))) refl
    by_access' i ok h l false a = (Err AccessOff, off i ok h l a)

    by_opcode : legal s ≡ true → (r : Refusal) → decode_of w ≡ Err r → (b : Bool) → has_opcode w ≡ b → (r : Reply) × Given s w r
    by_opcode ok r h true o = (Err UnsupportedForm, unsupported ok o (λ i e. refused≢ours (sym h ∙ e)))
    by_opcode ok r h false o = (Err ForeignWord, foreign ok o)

    by_word : legal s ≡ true → (d : Result Instruction Refusal) → decode_of w ≡ d → (r : Reply) × Given s w r
    by_word ok (Err r) h = by_opcode ok r h (has_opcode w) refl
    by_word ok (Ok i) h =
        elim (dec_lt s.level (level_of i)) [
          | yes l ↦ (Err LevelTooLow, low i ok h l)
          | no l ↦ by_access' i ok h (omega arith) s.access refl
        ]

    by_legality : (b : Bool) → legal s ≡ b → (r : Reply) × Given s w r
    by_legality true ok = by_word ok (decode_of w) refl
    by_legality false bad = (Err IllegalState, illegal bad)

pub exactly_when : (s : State) (w : ℕ) (r : Reply) → ((step_of s w).reply ≡ r) ↔ Given s w r
exactly_when s w r = (there, given_reply s w r)
  where
    there : (step_of s w).reply ≡ r → Given s w r
    there e = let (q, g) = row s w in subst (Given s w) (sym (given_reply s w q g) ∙ e) g

-- ---- what follows of the state

-- an accepted word's step is the instruction that it is, executed
pub accepted_step : (s : State) (w : ℕ) (i : Instruction) → decode_of w ≡ Ok i → (step_of s w).reply ≡ Ok tt → (step_of s w).state ≡ execute_of s i
accepted_step s w i h e = go (Ok tt) ((exactly_when s w (Ok tt)).0 e) refl
  where
    go : (r : Reply) → Given s w r → r ≡ Ok tt → (step_of s w).state ≡ execute_of s i
    go (Err IllegalState) (illegal b) z = let n : ◌≡◌ {A = ℕ} 0 1 = cc in absurd (omega arith)
    go (Err ForeignWord) (foreign ok b) z = let n : ◌≡◌ {A = ℕ} 0 1 = cc in absurd (omega arith)
    go (Err UnsupportedForm) (unsupported ok b k) z = let n : ◌≡◌ {A = ℕ} 0 1 = cc in absurd (omega arith)
    go (Err LevelTooLow) (low j ok b l) z = let n : ◌≡◌ {A = ℕ} 0 1 = cc in absurd (omega arith)
    go (Err AccessOff) (off j ok b l a) z = let n : ◌≡◌ {A = ℕ} 0 1 = cc in absurd (omega arith)
    go (Err NotMonotonic) (broken pn ok b l a m) z = let n : ◌≡◌ {A = ℕ} 0 1 = cc in absurd (omega arith)
    go (Ok tt) (done j ok b l a m) z =
        let k : j ≡ i = cc in
        let same : level_of j ≡ level_of i = ap level_of k in
        ap (λ (t : Stepped). t.state) (reply_is s w ok i h (Ok tt) (by_value s w ok i h true (sym (ap (λ (x : Instruction). accepts x (values_of s (registers_of x))) k) ∙ m) a (omega arith)))
    go (Err ImageCut) none z = elim none [ ]
    go (Err NotAllowed) none z = elim none [ ]
    go (Err TrailingBytes) none z = elim none [ ]
    go (Err BufferTooSmall) none z = elim none [ ]
    go (Err FieldPastRange) none z = elim none [ ]
    go (Err BadWalkRegisters) none z = elim none [ ]
    go (Err ListTooShort) none z = elim none [ ]
    go (Err BudgetSpent) none z = elim none [ ]
    go (Err NotOwned) none z = elim none [ ]

-- and so is the step of an instruction's own word
pub instruction_step : (s : State) (i : Instruction) → in_range i ≡ true → (step_of s (word_of i)).reply ≡ Ok tt → (step_of s (word_of i)).state ≡ execute_of s i
instruction_step s i h e = accepted_step s (word_of i) i (read-written i h) e

-- an instruction whose fields are within their ranges is accepted as its word where its level is reached, access is on and its values are taken
pub instruction_accepted : (s : State) (i : Instruction) → in_range i ≡ true → legal s ≡ true → level_of i ≤ s.level → s.access ≡ true → accepts i (values_of s (registers_of i)) ≡ true
    → step_of s (word_of i) ≡ answered (Ok tt) (execute_of s i)
instruction_accepted s i h ok l a t =
    let ours = read-written i h in
    reply_is s (word_of i) ok i ours (Ok tt) (by_value s (word_of i) ok i ours true t a l)

-- a reply other than 0 leaves the state as it was
pub refused-step : (s : State) (w : ℕ) → ((step_of s w).reply ≡ Ok tt → ⊥) → (step_of s w).state ≡ s
refused-step s w h = go (step_of s w).reply refl
  where
    go : (r : Reply) → (step_of s w).reply ≡ r → (step_of s w).state ≡ s
    go (Err e) g = ap (λ (t : Stepped). t.state) (sym (step_leaves s w e g))
    go (Ok u) g = absurd (h g)

-- an accepted word touches nothing but the registers that its instruction names as written
pub accepted_untouched : (s : State) (w : ℕ) (i : Instruction) → decode_of w ≡ Ok i → (step_of s w).reply ≡ Ok tt → Untouched s (step_of s w).state (registers_of i)
accepted_untouched s w i h e = subst (λ (t : State). Untouched s t (registers_of i)) (sym (accepted_step s w i h e)) (untouched s i)
