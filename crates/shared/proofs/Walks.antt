-- A kernel's walk is refused by nothing exactly where the premises of demand 3 hold, and each of its replies is given exactly when the table says, at every budget.
-- Assumes nothing but what the types of its arguments say.
use Rattle.replies.specs.Reply.{Reply, is_done}
use Rattle.std.specs.Prelude.{Ok, Err}
use mathlib.Core.Bool.{Bool, true, false, not, ◌&&◌, ◌||◌}
use mathlib.Core.List.{List}
use mathlib.Core.Logic.{◌↔◌}
use mathlib.Core.Path.{◌≡◌, refl, sym, ap, ap₂, subst, ◌∙◌}
use Prim.Native.Nat.{ℕ, ◌<◌}
use native.Mathlib.Decide.{dec_lt}
use native.Mathlib.Omega.{arith}
use lib.Dec.{ltb, eqb}
use lib.ListN.{length}
use borrow.Author.Tests.{lt-ltb, le-leb, lt-leb, eq-eqb, ne_eqb}
use Rattle.bits.specs.Choice.{pick}
use Rattle.bits.proofs.Searches.{never}
use Rattle.replies.specs.declared.Refusal.TheVariants.{LevelTooLow, AccessOff, IllegalState, BadWalkRegisters, ListTooShort, BudgetSpent, NotOwned, BufferTooSmall, FieldPastRange, ForeignWord, ImageCut, NotAllowed, NotMonotonic, TrailingBytes, UnsupportedForm}
use Rattle.registers.specs.Legal.{legal}
use Rattle.registers.specs.State.{with_flags}
use Rattle.words.specs.Words.{size_of}
use Rattle.machine.proofs.Steps.{pick_yes, pick_no}
use Rattle.walk.specs.Demand.{needed}
use Rattle.walk.specs.Given.{GoodRegisters}
use Rattle.walk.specs.Given as Walk
use Rattle.walk.specs.Given.Given.{spent as Row-spent, done as Row-done}
use Rattle.walk.specs.Walk.{bad_registers, distance}
use Rattle.walk.specs.Lengths.{Typed}
use Rattle.walk.proofs.Accepted.{registers_good}
use Rattle.walk.proofs.Accepted as Ordinary
use Rattle.walk.proofs.Replies as Ordinary'
use Rattle.shared.specs.declared.Kernel.{Kernel}
use Rattle.shared.specs.declared.Shared.{Shared}
use Rattle.shared.specs.declared.Walked.{Walked}
use Rattle.shared.specs.GivenWalk.{Owned, Accepted, Given}
use Rattle.shared.specs.GivenWalk.Given.{illegal, bad, low, off, not_owned, short, spent, done}
use Rattle.shared.specs.Ownership.{owns_x, owns_p, may_name_x, may_name_p, may_walk}
use Rattle.shared.specs.Shared.{state_for, refusal_of, walk_of}
use Rattle.shared.proofs.Acting.{all_walked}
use Rattle.shared.proofs.Naming.{own_x, own_p}
use Rattle.shared.proofs.Ways.{for_legal, barred_done, refusal_may, refusal-not, walk-illegal, walk_refused, walk_may}

-- ---- the four registers

module _ (who : Kernel) (size n m d k : ℕ) (g : GoodRegisters size n m d k) where
  own_limit : (eqb m 31 || owns_x who m) ≡ may_name_x who m
  unfolding may_name_x
  own_limit =
      elim (dec_lt m 31) [
        | yes l ↦ ap₂ ◌||◌ (ne_eqb m 31 (λ e. omega arith) ∙ sym (lt-leb 31 m l)) refl
        | no l ↦ ap₂ ◌||◌ (eq-eqb m 31 (let h = g.limit in omega arith) ∙ sym (le-leb 31 m (omega arith))) refl
      ]

  own_start : owns_x who n ≡ may_name_x who n
  own_start = own_x who n (let h = g.start in let q = g.not_31 in omega arith)

  own_lanes : owns_p who d ≡ may_name_p who d
  own_lanes = own_p who d (let h = g.lanes in omega arith)

  own_cursor : owns_p who k ≡ may_name_p who k
  own_cursor = own_p who k (let h = g.cursor in omega arith)

  -- where their numbers are good, a kernel may name them exactly if they are its own, or 31 is the limit
  pub owned_walks : Owned who n m d k ↔ (may_walk who n m d k ≡ true)
  unfolding may_walk
  owned_walks = (there, back)
    where
      there : Owned who n m d k → may_walk who n m d k ≡ true
      there o = ap₂ ◌&&◌ (sym own_start ∙ o.start) (ap₂ ◌&&◌ (sym own_limit ∙ o.limit) (ap₂ ◌&&◌ (sym own_lanes ∙ o.lanes) (sym own_cursor ∙ o.cursor)))

      back : may_walk who n m d k ≡ true → Owned who n m d k
      back h =
          let w = all_walked who n m d k h in
          record { start = own_start ∙ w.start; limit = own_limit ∙ w.limit; lanes = own_lanes ∙ w.lanes; cursor = own_cursor ∙ w.cursor }

  unowned : (Owned who n m d k → ⊥) → may_walk who n m d k ≡ false
  unowned h = go (may_walk who n m d k) refl
    where
      go : (b : Bool) → may_walk who n m d k ≡ b → may_walk who n m d k ≡ false
      go true e = absurd (h (owned_walks.1 e))
      go false e = e

-- ---- flags do not bear on an ordinary walk's premises

module _ (who : Kernel) (size n m d k : ℕ) (s : Shared) (places : ℕ) where
  with_flags_lem : Walk.Accepted size n m d k s.state places ↔ Walk.Accepted size n m d k (state_for who s) places
  unfolding state_for with_flags
  with_flags_lem = (
    λ a. record { legal_is = for_legal who s ∙ a.legal_is; registers = a.registers; present = a.present; on = a.on; room = a.room },
    λ a. record { legal_is = sym (for_legal who s) ∙ a.legal_is; registers = a.registers; present = a.present; on = a.on; room = a.room },
  )

  -- the premises of demand 3 for a kernel hold exactly if its walk is refused by none of 4, 10, 2, 3, 15 and 11
  pub accepted_when : Accepted who size n m d k s places ↔ (refusal_of who size n m d k s places ≡ Ok tt)
  accepted_when = (there, λ e. back e (may_walk who n m d k) refl)
    where
      there : Accepted who size n m d k s places → refusal_of who size n m d k s places ≡ Ok tt
      there a =
          refusal_may who size n m d k s ((owned_walks who size n m d k a.ordinary.registers).0 a.owned) places
          ∙ (Ordinary.accepted_when size n m d k (state_for who s) places).0 (with_flags_lem.0 a.ordinary)

      back : refusal_of who size n m d k s places ≡ Ok tt → (b : Bool) → may_walk who n m d k ≡ b → Accepted who size n m d k s places
      back e true h =
          let a = with_flags_lem.1 ((Ordinary.accepted_when size n m d k (state_for who s) places).1 (sym (refusal_may who size n m d k s h places) ∙ e)) in
          record { ordinary = a; owned = (owned_walks who size n m d k a.registers).1 h }
      back e false h = absurd (barred_done _ (sym (refusal-not who size n m d k s h places) ∙ e))

-- ---- the refusal past each test

module _ (who : Kernel) (size n m d k : ℕ) (s : Shared) (places : ℕ) where
  abbrev past_15 : Reply
  past_15 = pick (ltb places (distance n m s.state)) (Err ListTooShort) (Ok tt)

  abbrev past_3 : Reply
  past_3 = pick (not (may_walk who n m d k)) (Err NotOwned) past_15

  abbrev past_2 : Reply
  past_2 = pick (not s.state.access) (Err AccessOff) past_3

  abbrev past_10 : Reply
  past_10 = pick (eqb s.state.level 0) (Err LevelTooLow) past_2

  module _ (ok : legal s.state ≡ true) where
    refused_10 : bad_registers size n m d k ≡ true → refusal_of who size n m d k s places ≡ Err BadWalkRegisters
    unfolding refusal_of
    refused_10 h = pick_no _ _ _ (ap not ok) ∙ pick_yes _ _ _ h

    module _ (g : GoodRegisters size n m d k) where
      after_10 : refusal_of who size n m d k s places ≡ past_10
      unfolding refusal_of
      after_10 = pick_no _ _ _ (ap not ok) ∙ pick_no _ _ _ ((registers_good size n m d k).0 g)

      refused_2 : s.state.level ≡ 0 → refusal_of who size n m d k s places ≡ Err LevelTooLow
      refused_2 h = after_10 ∙ pick_yes _ _ _ (eq-eqb s.state.level 0 h)

      module _ (present : 0 < s.state.level) where
        after_2 : refusal_of who size n m d k s places ≡ past_2
        after_2 = after_10 ∙ pick_no _ _ _ (ne_eqb s.state.level 0 (λ e. omega arith))

        refused_3 : s.state.access ≡ false → refusal_of who size n m d k s places ≡ Err AccessOff
        refused_3 h = after_2 ∙ pick_yes _ _ _ (ap not h)

        module _ (on : s.state.access ≡ true) where
          after_3 : refusal_of who size n m d k s places ≡ past_3
          after_3 = after_2 ∙ pick_no _ _ _ (ap not on)

          refused_15 : (Owned who n m d k → ⊥) → refusal_of who size n m d k s places ≡ Err NotOwned
          refused_15 h = after_3 ∙ pick_yes _ _ _ (ap not (unowned who size n m d k g h))

          refused_11 : Owned who n m d k → places < distance n m s.state → refusal_of who size n m d k s places ≡ Err ListTooShort
          refused_11 o h = after_3 ∙ pick_no _ _ _ (ap not ((owned_walks who size n m d k g).0 o)) ∙ pick_yes _ _ _ (lt-ltb places (distance n m s.state) h)

-- ---- exactly when

module _ (who : Kernel) (size n m d k budget : ℕ) (s : Shared) (l : List ℕ) (typed : Typed s.state) where
  -- a refusal before 12 is the walk's reply
  refused : (r : Reply) → refusal_of who size n m d k s (length l) ≡ r → is_done r ≡ false → (walk_of who size n m d k budget s l).reply ≡ r
  refused r e h = ap (λ (w : Walked). w.reply) (walk_refused who size n m d k budget s l (ap is_done e ∙ h)) ∙ e

  typed_for : Typed (state_for who s)
  unfolding state_for with_flags
  typed_for = record { fits = typed.fits }

  -- and past the refusals it is the ordinary walk's
  ordinary : (a : Accepted who size n m d k s (length l)) (r : Reply) → Walk.Given size n m d k budget (state_for who s) (length l) r → (walk_of who size n m d k budget s l).reply ≡ r
  ordinary a r h =
      ap (λ (w : Walked). w.reply) (walk_may who size n m d k budget s l ((owned_walks who size n m d k a.ordinary.registers).0 a.owned))
      ∙ (Ordinary'.walk_exactly_when size n m d k budget (state_for who s) l typed_for r).1 h

  -- a reply that the table gives is the walk's
  given_reply : (r : Reply) → Given who size n m d k budget s (length l) r → (walk_of who size n m d k budget s l).reply ≡ r
  unfolding state_for with_flags
  given_reply (Err IllegalState) (illegal h) = refused (Err IllegalState) (walk-illegal who size n m d k s h (length l)) refl
  given_reply (Err BadWalkRegisters) (bad ok h) = refused (Err BadWalkRegisters) (refused_10 who size n m d k s (length l) ok h) refl
  given_reply (Err LevelTooLow) (low ok g h) = refused (Err LevelTooLow) (refused_2 who size n m d k s (length l) ok g h) refl
  given_reply (Err AccessOff) (off ok g v h) = refused (Err AccessOff) (refused_3 who size n m d k s (length l) ok g v h) refl
  given_reply (Err NotOwned) (not_owned ok g v on h) = refused (Err NotOwned) (refused_15 who size n m d k s (length l) ok g v on h) refl
  given_reply (Err ListTooShort) (short ok g v on o h) = refused (Err ListTooShort) (refused_11 who size n m d k s (length l) ok g v on o h) refl
  given_reply (Err BudgetSpent) (spent a h) = ordinary a (Err BudgetSpent) (Row-spent ((with_flags_lem who size n m d k s (length l)).0 a.ordinary) h)
  given_reply (Ok tt) (done a h) = ordinary a (Ok tt) (Row-done ((with_flags_lem who size n m d k s (length l)).0 a.ordinary) h)
  given_reply (Err ForeignWord) none = elim none [ ]
  given_reply (Err ImageCut) none = elim none [ ]
  given_reply (Err NotAllowed) none = elim none [ ]
  given_reply (Err TrailingBytes) none = elim none [ ]
  given_reply (Err BufferTooSmall) none = elim none [ ]
  given_reply (Err FieldPastRange) none = elim none [ ]
  given_reply (Err UnsupportedForm) none = elim none [ ]
  given_reply (Err NotMonotonic) none = elim none [ ]

  -- and one of its rows applies
  row : (r : Reply) × Given who size n m d k budget s (length l) r
  row = by_legality (legal s.state) refl
    where
      by_budget : Accepted who size n m d k s (length l) → (r : Reply) × Given who size n m d k budget s (length l) r
      by_budget a =
          elim (dec_lt budget (needed (size_of size) n m s.state)) [
            | yes h ↦ ((Err BudgetSpent), spent a h)
            | no h ↦ ((Ok tt), done a (omega arith))
          ]

      by_room : legal s.state ≡ true → GoodRegisters size n m d k → 0 < s.state.level → s.state.access ≡ true → Owned who n m d k → (r : Reply) × Given who size n m d k budget s (length l) r
      by_room ok g v on o =
          elim (dec_lt (length l) (distance n m s.state)) [
            | yes h ↦ ((Err ListTooShort), short ok g v on o h)
            | no h ↦ by_budget (record { ordinary = record { legal_is = ok; registers = g; present = v; on = on; room = omega arith }; owned = o })
          ]

      by_owner : legal s.state ≡ true → GoodRegisters size n m d k → 0 < s.state.level → s.state.access ≡ true → (b : Bool) → may_walk who n m d k ≡ b → (r : Reply) × Given who size n m d k budget s (length l) r
      by_owner ok g v on true h = by_room ok g v on ((owned_walks who size n m d k g).1 h)
      by_owner ok g v on false h = ((Err NotOwned), not_owned ok g v on (λ o. never ((owned_walks who size n m d k g).0 o) h))

      by_access : legal s.state ≡ true → GoodRegisters size n m d k → 0 < s.state.level → (b : Bool) → s.state.access ≡ b → (r : Reply) × Given who size n m d k budget s (length l) r
      by_access ok g v true on = by_owner ok g v on (may_walk who n m d k) refl
      by_access ok g v false h = ((Err AccessOff), off ok g v h)

      by_level : legal s.state ≡ true → GoodRegisters size n m d k → (r : Reply) × Given who size n m d k budget s (length l) r
      by_level ok g =
          elim (dec_lt 0 s.state.level) [
            | yes v ↦ by_access ok g v s.state.access refl
            | no h ↦ ((Err LevelTooLow), low ok g (omega arith))
          ]

      by_registers : legal s.state ≡ true → (b : Bool) → bad_registers size n m d k ≡ b → (r : Reply) × Given who size n m d k budget s (length l) r
      by_registers ok true h = ((Err BadWalkRegisters), bad ok h)
      by_registers ok false h = by_level ok ((registers_good size n m d k).1 h)

      by_legality : (b : Bool) → legal s.state ≡ b → (r : Reply) × Given who size n m d k budget s (length l) r
      by_legality true ok = by_registers ok (bad_registers size n m d k) refl
      by_legality false h = ((Err IllegalState), illegal h)

  pub walk_exactly_when : (r : Reply) → ((walk_of who size n m d k budget s l).reply ≡ r) ↔ Given who size n m d k budget s (length l) r
  walk_exactly_when r = (there, given_reply r)
    where
      there : (walk_of who size n m d k budget s l).reply ≡ r → Given who size n m d k budget s (length l) r
      there e = let (q, g) = row in subst (Given who size n m d k budget s (length l)) (sym (given_reply q g) ∙ e) g
