-- Each reply of a kernel's step is given exactly when the table says; the order of a walk's; and what follows of the shared state. Assumes nothing.
use Rattle.replies.specs.declared.Refusal.{Refusal}
use Rattle.replies.specs.Reply.{Reply, is_done}
use Rattle.std.specs.Prelude.{Ok, Err}
use mathlib.Core.Bool.{Bool, true, false, not}
use mathlib.Core.List.{List}
use mathlib.Core.Logic.{◌↔◌}
use mathlib.Core.Path.{◌≡◌, refl, sym, ap, ◌∙◌, subst}
use Prim.Native.Nat.{ℕ, ◌+◌, ◌^◌, ◌≤◌, ◌<◌}
use native.Mathlib.Omega.{arith}
use lib.Dec.{ltb, eqb}
use lib.ListN.{length}
use borrow.Author.Tests.{lt-ltb, le-ltb}
use Rattle.bits.specs.declared.Size.{Size}
use Rattle.bits.specs.Choice.{pick}
use Rattle.bits.proofs.Searches.{never}
use Rattle.replies.specs.declared.Refusal.TheVariants.{ForeignWord, LevelTooLow, AccessOff, IllegalState, BadWalkRegisters, ListTooShort, UnsupportedForm, NotMonotonic, NotOwned, BudgetSpent, BufferTooSmall, FieldPastRange, ImageCut, NotAllowed, TrailingBytes}
use Rattle.registers.specs.declared.State.{State}
use Rattle.registers.specs.Legal.{legal}
use Rattle.registers.specs.State.{with_flags}
use Rattle.scalars.specs.declared.Condition.{Condition}
use Rattle.words.specs.declared.Instruction.{Instruction}
use Rattle.words.specs.declared.Instruction.TheVariants.{While, Wrffr}
use Rattle.words.specs.declared.Target.TheVariants.{Counter}
use Rattle.words.specs.Words.{while_counter_form, fields_of, decode_of, in_range, level_of}
use Rattle.words.proofs.Codec.{field_below}
use Rattle.words.proofs.Refusals.{foreign_read, unread}
use Rattle.words.proofs.RoundTrip.{written_read}
use Rattle.instructions.specs.Operands.{registers_of}
use Rattle.machine.specs.Execute.{execute_of}
use Rattle.machine.specs.Given as Rows
use Rattle.machine.specs.Given.Given.{illegal as row_4, foreign as row_1, unsupported as row_13, low as row_2, off as row_3, broken as row_14, done as row_0}
use Rattle.machine.specs.Step as Machine
use Rattle.machine.specs.Frame.{Untouched}
use Rattle.machine.proofs.Frame.{untouched}
use Rattle.machine.proofs.Replies as Ordinary
use Rattle.machine.proofs.Steps.{pick_yes, pick_no}
use Rattle.walk.specs.Walk.{bad_registers, distance}
use Rattle.shared.specs.declared.Kernel.{Kernel}
use Rattle.shared.specs.declared.Kernel.TheVariants.{First, Second}
use Rattle.shared.specs.declared.Shared.{Shared}
use Rattle.shared.specs.declared.Stepped.{Stepped}
use Rattle.shared.specs.Given.{Given}
use Rattle.shared.specs.Given.Given.{illegal, foreign, unsupported, low, off, not_owned, done}
use Rattle.shared.specs.Ownership.{may_name_p, may_name, may_walk}
use Rattle.shared.specs.Shared.{flags_for, state_for, shared_after, reply_of, after_word, step_of, refusal_of, walk_of, list_of}
use Rattle.shared.specs.Isolation.{other}
use Rattle.shared.proofs.Ways.{left_has, for_legal, step_after, step-illegal, walk_refused, list_refused}
use Rattle.shared.proofs.Naming.{first_p}
use Rattle.shared.proofs.Same.{all_named}

-- the other kernel's flags stay where they are
theirs : (who : Kernel) (s : Shared) (t : State) → flags_for (other who) (shared_after who s t) ≡ flags_for (other who) s
unfolding shared_after with_flags
theirs First s t = refl
theirs Second s t = refl

-- ---- the reply of a legal state's step, from what the word is

module _ (who : Kernel) (s : Shared) (w : ℕ) (ok : legal s.state ≡ true) where
  refused_is : (r : Refusal) → decode_of w ≡ Err r → step_of who s w ≡ record { reply = Err r; shared = s }
  unfolding after_word
  refused_is r h = step_after who s w ok ∙ ap (after_word who s) h

  module _ (i : Instruction) (ours : decode_of w ≡ Ok i) where
    reply_is : (r : Reply) → reply_of who s i ≡ r → step_of who s w ≡ record { reply = r; shared = pick (is_done r) (shared_after who s (execute_of (state_for who s) i)) s }
    unfolding after_word
    reply_is r e =
        step_after who s w ok ∙ ap (after_word who s) ours
        ∙ ap (λ (q : Reply). record { reply = q; shared = pick (is_done q) (shared_after who s (execute_of (state_for who s) i)) s }) e

    low_is : s.state.level < level_of i → step_of who s w ≡ record { reply = Err LevelTooLow; shared = s }
    low_is l = reply_is (Err LevelTooLow) (pick_yes _ _ _ (lt-ltb s.state.level (level_of i) l))

    module _ (enough : level_of i ≤ s.state.level) where
      past-level : reply_of who s i ≡ pick (not s.state.access) (Err AccessOff) (pick (not (may_name who (registers_of i))) (Err NotOwned) (Ok tt))
      past-level = pick_no _ _ _ (le-ltb s.state.level (level_of i) enough)

      off_is : s.state.access ≡ false → step_of who s w ≡ record { reply = Err AccessOff; shared = s }
      off_is a = reply_is (Err AccessOff) (past-level ∙ pick_yes _ _ _ (ap not a))

      module _ (on : s.state.access ≡ true) where
        past_access : reply_of who s i ≡ pick (not (may_name who (registers_of i))) (Err NotOwned) (Ok tt)
        past_access = past-level ∙ pick_no _ _ _ (ap not on)

        barred_is : may_name who (registers_of i) ≡ false → step_of who s w ≡ record { reply = Err NotOwned; shared = s }
        barred_is m = reply_is (Err NotOwned) (past_access ∙ pick_yes _ _ _ (ap not m))

        done_is : may_name who (registers_of i) ≡ true → step_of who s w ≡ record { reply = Ok tt; shared = shared_after who s (execute_of (state_for who s) i) }
        done_is m = reply_is (Ok tt) (past_access ∙ pick_no _ _ _ (ap not m))

-- ---- exactly when

module _ (who : Kernel) (s : Shared) (w : ℕ) where
  -- a reply that the table gives is the step's
  given_reply : (r : Reply) → Given who s w r → (step_of who s w).reply ≡ r
  given_reply (Err IllegalState) (illegal h) = ap (λ (t : Stepped). t.reply) (step-illegal who s w h)
  given_reply (Err ForeignWord) (foreign ok h) = ap (λ (t : Stepped). t.reply) (refused_is who s w ok ForeignWord ((foreign_read w).1 h))
  given_reply (Err UnsupportedForm) (unsupported ok h k) = ap (λ (t : Stepped). t.reply) (refused_is who s w ok UnsupportedForm (unread w h k))
  given_reply (Err LevelTooLow) (low i ok h l) = ap (λ (t : Stepped). t.reply) (low_is who s w ok i h l)
  given_reply (Err AccessOff) (off i ok h l a) = ap (λ (t : Stepped). t.reply) (off_is who s w ok i h l a)
  given_reply (Err NotOwned) (not_owned i ok h l a m) = ap (λ (t : Stepped). t.reply) (barred_is who s w ok i h l a m)
  given_reply (Ok tt) (done i ok h l a m) = ap (λ (t : Stepped). t.reply) (done_is who s w ok i h l a m)
  given_reply (Err ImageCut) none = elim none [ ]
  given_reply (Err NotAllowed) none = elim none [ ]
  given_reply (Err TrailingBytes) none = elim none [ ]
  given_reply (Err BufferTooSmall) none = elim none [ ]
  given_reply (Err FieldPastRange) none = elim none [ ]
  given_reply (Err BadWalkRegisters) none = elim none [ ]
  given_reply (Err ListTooShort) none = elim none [ ]
  given_reply (Err BudgetSpent) none = elim none [ ]
  given_reply (Err NotMonotonic) none = elim none [ ]

  -- and one of its rows applies: an ordinary step's, with 15 for 14, and for 0 where a register is not the kernel's
  row : (r : Reply) × Given who s w r
  unfolding state_for with_flags
  row = go (Machine.step_of (state_for who s) w).reply ((Ordinary.exactly_when (state_for who s) w (Machine.step_of (state_for who s) w).reply).0 refl)
    where
      is : {b : Bool} → legal (state_for who s) ≡ b → legal s.state ≡ b
      is h = sym (for_legal who s) ∙ h

      by_owner : (i : Instruction) → legal (state_for who s) ≡ true → decode_of w ≡ Ok i → level_of i ≤ s.state.level → s.state.access ≡ true → (b : Bool) → may_name who (registers_of i) ≡ b → (r : Reply) × Given who s w r
      by_owner i ok h l a true m = (Ok tt, done i (is ok) h l a m)
      by_owner i ok h l a false m = (Err NotOwned, not_owned i (is ok) h l a m)

      go : (r : Reply) → Rows.Given (state_for who s) w r → (q : Reply) × Given who s w q
      go (Err IllegalState) (row_4 h) = (Err IllegalState, illegal (is h))
      go (Err ForeignWord) (row_1 ok h) = (Err ForeignWord, foreign (is ok) h)
      go (Err UnsupportedForm) (row_13 ok h k) = (Err UnsupportedForm, unsupported (is ok) h k)
      go (Err LevelTooLow) (row_2 i ok h l) = (Err LevelTooLow, low i (is ok) h l)
      go (Err AccessOff) (row_3 i ok h l a) = (Err AccessOff, off i (is ok) h l a)
      go (Err NotMonotonic) (row_14 pn ok h l a m) = by_owner (Wrffr pn) ok h l a (may_name who (registers_of (Wrffr pn))) refl
      go (Ok tt) (row_0 i ok h l a m) = by_owner i ok h l a (may_name who (registers_of i)) refl
      go (Err ImageCut) none = elim none [ ]
      go (Err NotAllowed) none = elim none [ ]
      go (Err TrailingBytes) none = elim none [ ]
      go (Err BufferTooSmall) none = elim none [ ]
      go (Err FieldPastRange) none = elim none [ ]
      go (Err BadWalkRegisters) none = elim none [ ]
      go (Err ListTooShort) none = elim none [ ]
      go (Err BudgetSpent) none = elim none [ ]
      go (Err NotOwned) none = elim none [ ]

  pub exactly_when : (r : Reply) → ((step_of who s w).reply ≡ r) ↔ Given who s w r
  exactly_when r = (there, given_reply r)
    where
      there : (step_of who s w).reply ≡ r → Given who s w r
      there e = let (q, g) = row in subst (Given who s w) (sym (given_reply q g) ∙ e) g

  -- ---- what follows of the shared state

  -- a reply other than 0 leaves it as it was
  pub refused-step : ((step_of who s w).reply ≡ Ok tt → ⊥) → (step_of who s w).shared ≡ s
  refused-step h = let (r, g) = row in go r g
    where
      go : (r : Reply) → Given who s w r → (step_of who s w).shared ≡ s
      go (Err IllegalState) (illegal b) = ap (λ (t : Stepped). t.shared) (step-illegal who s w b)
      go (Err ForeignWord) (foreign ok b) = ap (λ (t : Stepped). t.shared) (refused_is who s w ok ForeignWord ((foreign_read w).1 b))
      go (Err UnsupportedForm) (unsupported ok b k) = ap (λ (t : Stepped). t.shared) (refused_is who s w ok UnsupportedForm (unread w b k))
      go (Err LevelTooLow) (low i ok b l) = ap (λ (t : Stepped). t.shared) (low_is who s w ok i b l)
      go (Err AccessOff) (off i ok b l a) = ap (λ (t : Stepped). t.shared) (off_is who s w ok i b l a)
      go (Err NotOwned) (not_owned i ok b l a m) = ap (λ (t : Stepped). t.shared) (barred_is who s w ok i b l a m)
      go (Ok tt) (done i ok b l a m) = absurd (h (given_reply (Ok tt) (done i ok b l a m)))
      go (Err ImageCut) none = elim none [ ]
      go (Err NotAllowed) none = elim none [ ]
      go (Err TrailingBytes) none = elim none [ ]
      go (Err BufferTooSmall) none = elim none [ ]
      go (Err FieldPastRange) none = elim none [ ]
      go (Err BadWalkRegisters) none = elim none [ ]
      go (Err ListTooShort) none = elim none [ ]
      go (Err BudgetSpent) none = elim none [ ]
      go (Err NotMonotonic) none = elim none [ ]

  module _ (i : Instruction) (ours : decode_of w ≡ Ok i) (accepted : (step_of who s w).reply ≡ Ok tt) where
    abbrev has : State
    has = state_for who s

    accepted_is : (may_name who (registers_of i) ≡ true) × ((step_of who s w).shared ≡ shared_after who s (execute_of has i))
    accepted_is = go (Ok tt) ((exactly_when (Ok tt)).0 accepted) refl
      where
        go : (r : Reply) → Given who s w r → r ≡ Ok tt → (may_name who (registers_of i) ≡ true) × ((step_of who s w).shared ≡ shared_after who s (execute_of has i))
        go (Err IllegalState) (illegal b) z = let n : ◌≡◌ {A = ℕ} 0 1 = cc in absurd (omega arith)
        go (Err ForeignWord) (foreign ok b) z = let n : ◌≡◌ {A = ℕ} 0 1 = cc in absurd (omega arith)
        go (Err UnsupportedForm) (unsupported ok b k) z = let n : ◌≡◌ {A = ℕ} 0 1 = cc in absurd (omega arith)
        go (Err LevelTooLow) (low j ok b l) z = let n : ◌≡◌ {A = ℕ} 0 1 = cc in absurd (omega arith)
        go (Err AccessOff) (off j ok b l a) z = let n : ◌≡◌ {A = ℕ} 0 1 = cc in absurd (omega arith)
        go (Err NotOwned) (not_owned j ok b l a m) z = let n : ◌≡◌ {A = ℕ} 0 1 = cc in absurd (omega arith)
        go (Ok tt) (done j ok b l a m) z =
            let k : j ≡ i = cc in (
              sym (ap (λ (x : Instruction). may_name who (registers_of x)) k) ∙ m,
              ap (λ (t : Stepped). t.shared) (done_is who s w ok j b l a m) ∙ ap (λ (x : Instruction). shared_after who s (execute_of has x)) k,
            )
        go (Err ImageCut) none z = elim none [ ]
        go (Err NotAllowed) none z = elim none [ ]
        go (Err TrailingBytes) none z = elim none [ ]
        go (Err BufferTooSmall) none z = elim none [ ]
        go (Err FieldPastRange) none z = elim none [ ]
        go (Err BadWalkRegisters) none z = elim none [ ]
        go (Err ListTooShort) none z = elim none [ ]
        go (Err BudgetSpent) none z = elim none [ ]
        go (Err NotMonotonic) none z = elim none [ ]

    -- all that it names is the kernel's
    pub accepted_owned : may_name who (registers_of i) ≡ true
    accepted_owned = accepted_is.0

    -- demand 2: the instruction executed on the state with the kernel's flags, which are kept in their place
    pub accepted_step : (step_of who s w).shared ≡ shared_after who s (execute_of has i)
    accepted_step = accepted_is.1

    -- nothing that it does not name as written, and nothing of the other's flags
    pub accepted_untouched : Untouched has (state_for who (step_of who s w).shared) (registers_of i) × (flags_for (other who) (step_of who s w).shared ≡ flags_for (other who) s)
    accepted_untouched =
        let state : state_for who (step_of who s w).shared ≡ execute_of has i = ap (state_for who) accepted_step ∙ left_has who s (execute_of has i) in
        (subst (λ (t : State). Untouched has t (registers_of i)) (sym state) (untouched has i), ap (flags_for (other who)) accepted_step ∙ theirs who s (execute_of has i))

-- ---- a counter WHILE

-- it writes one of P8 to P15: it is never the first kernel's
module _ (c : Condition) (u four : Bool) (pnd : ℕ) (size : Size) (rn rm : ℕ) where
  abbrev counting : Instruction
  counting = While c u (Counter four pnd) size rn rm

  pub counter-not-first : in_range (While c u (Counter four pnd) size rn rm) ≡ true → may_name First (registers_of (While c u (Counter four pnd) size rn rm)) ≡ false
  counter-not-first h = go (may_name First (registers_of counting)) refl
    where
      three_bits : pnd < 8
      three_bits = field_below while_counter_form.layout (fields_of counting) 7 h (omega arith)

      no : may_name_p First (8 + pnd) ≡ false
      no = sym (first_p First (8 + pnd) refl (let l = three_bits in omega arith)) ∙ le-ltb (8 + pnd) 8 (omega arith)

      go : (b : Bool) → may_name First (registers_of counting) ≡ b → may_name First (registers_of counting) ≡ false
      go true e = never (all_named First (registers_of counting) e).pd no
      go false e = e

  -- whatever the state, the first kernel's step of such a word is refused
  pub counter-refused : (s : Shared) (w : ℕ) → w < 2 ^ 32 → decode_of w ≡ Ok (While c u (Counter four pnd) size rn rm) → (step_of First s w).reply ≡ Ok tt → ⊥
  counter-refused s w small ours accepted = never (accepted_owned First s w counting ours accepted) (counter-not-first (written_read w counting small ours).0)

-- ---- a walk

module _ (who : Kernel) (size n m d k : ℕ) (s : Shared) where
  -- 4, 10, 2, 3, 15, 11
  pub walk_order : (places : ℕ) → refusal_of who size n m d k s places
      ≡ pick (not (legal s.state)) (Err IllegalState)
      (pick (bad_registers size n m d k) (Err BadWalkRegisters)
      (pick (eqb s.state.level 0) (Err LevelTooLow)
      (pick (not s.state.access) (Err AccessOff)
      (pick (not (may_walk who n m d k)) (Err NotOwned)
      (pick (ltb places (distance n m s.state)) (Err ListTooShort) (Ok tt))))))
  unfolding refusal_of
  walk_order places = refl

  -- a refusal leaves shared state and list as they were
  pub refused-walk : (budget : ℕ) (l : List ℕ) → is_done (refusal_of who size n m d k s (length l)) ≡ false
      → (walk_of who size n m d k budget s l ≡ record { reply = refusal_of who size n m d k s (length l); count = 0; visited = 0; shared = s }) × (list_of who size n m d k budget s l ≡ l)
  refused-walk budget l h = (walk_refused who size n m d k budget s l h, list_refused who size n m d k budget s l h)
