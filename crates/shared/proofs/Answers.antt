-- What a kernel's step and walk answer, permitted or not; and whose flags stand where. Assumes nothing.
use Rattle.replies.specs.declared.Refusal.TheVariants as R
use Rattle.replies.specs.Reply.{Reply}
use Rattle.std.specs.Prelude.{Ok, Err}
use Rattle.replies.specs.declared.Refusal.{Refusal}
use mathlib.Core.Logic.{◌⊎◌, inl, inr}
use mathlib.Core.Bool.{Bool, true, false, not}
use mathlib.Core.List.{List}
use mathlib.Core.Path.{◌≡◌, sym, ap, ◌∙◌, subst, refl}
use Prim.Native.Nat.{ℕ}
use lib.ListN.{length}
use borrow.Author.Tests.{not-true, not-false}
use Rattle.predicates.specs.declared.Flags.{Flags}
use Rattle.registers.specs.declared.State.{State}
use Rattle.registers.specs.State.{with_flags}
use Rattle.words.specs.Words.{size_of, decode_of}
use Rattle.machine.specs.declared.Stepped as Machine'
use Rattle.machine.specs.Step as Machine
use Rattle.walk.specs.declared.Walked as Walk'
use Rattle.walk.specs.Walk as Walk
use Rattle.walk.specs.Demand.{Demand3}
use Rattle.shared.specs.declared.Kernel.{Kernel}
use Rattle.shared.specs.declared.Kernel.TheVariants.{First, Second}
use Rattle.shared.specs.declared.Shared.{Shared}
use Rattle.shared.specs.declared.Walked.{Walked}
use Rattle.shared.specs.Inside.{stands_after, may_step, barred}
use Rattle.shared.specs.Ownership.{may_walk}
use Rattle.shared.specs.Shared.{flags_for, state_for, shared_after, step_of, refusal_of, walked_for, walk_of, list_of, walked_by}
use Rattle.shared.proofs.Ways.{left_has, barred_done, step_may, step-not, refusal_may, refusal-not, walk_may, walk-not, list_may, list_not}

-- ---- whose flags stand where

pub flagged : (who : Kernel) (s : Shared) (f : Flags) (t : State) → f ≡ flags_for who s → t ≡ with_flags s.state f → t ≡ state_for who s
unfolding state_for
flagged who s f t ef h = h ∙ ap (with_flags s.state) ef

pub first-after : (who : Kernel) (s : Shared) (t : State) → who ≡ First → record { state = t; second = s.second } ≡ shared_after who s t
unfolding shared_after
first-after who s t e = ap (λ (w : Kernel). shared_after w s t) (sym e)

pub second_after : (who : Kernel) (s : Shared) (t u : State) → who ≡ Second → u ≡ with_flags t s.state.flags → record { state = u; second = t.flags } ≡ shared_after who s t
unfolding shared_after
second_after who s t u e h = ap (λ (v : State). record { state = v; second = t.flags }) h ∙ ap (λ (w : Kernel). shared_after w s t) (sym e)

-- ---- whether 15 stands before a reply

-- it does before 14 and 11
pub stands-either : (e : Refusal) → (e ≡ R.NotMonotonic) ⊎ (e ≡ R.ListTooShort) → stands_after (Err e) ≡ true
unfolding stands_after
stands-either e (inl h) = ap (λ (r : Refusal). stands_after (Err r)) h
stands-either e (inr h) = ap (λ (r : Refusal). stands_after (Err r)) h

-- and before no other
pub stands-not : (e : Refusal) → (e ≡ R.NotMonotonic → ⊥) → (e ≡ R.ListTooShort → ⊥) → stands_after (Err e) ≡ false
unfolding stands_after
stands-not R.NotMonotonic h k = absurd (h refl)
stands-not R.ListTooShort h k = absurd (k refl)
stands-not R.ForeignWord h k = refl
stands-not R.LevelTooLow h k = refl
stands-not R.AccessOff h k = refl
stands-not R.IllegalState h k = refl
stands-not R.ImageCut h k = refl
stands-not R.NotAllowed h k = refl
stands-not R.TrailingBytes h k = refl
stands-not R.BufferTooSmall h k = refl
stands-not R.FieldPastRange h k = refl
stands-not R.BadWalkRegisters h k = refl
stands-not R.BudgetSpent h k = refl
stands-not R.UnsupportedForm h k = refl
stands-not R.NotOwned h k = refl

-- ---- a step

module _ (who : Kernel) (s : Shared) (w : ℕ) (a : State) (t : Machine'.Stepped) (b : Bool) (has : a ≡ state_for who s) (is : t ≡ Machine.step_of a w) (may : b ≡ may_step who (decode_of w)) where
  stepped : t ≡ Machine.step_of (state_for who s) w
  stepped = is ∙ ap (λ (x : State). Machine.step_of x w) has

  pub step-barred : (q : Reply) → not b ≡ true → q ≡ barred t.reply → record { reply = q; shared = s } ≡ step_of who s w
  step-barred q h e =
      ap (λ (x : Reply). record { reply = x; shared = s }) (e ∙ ap (λ (x : Machine'.Stepped). barred x.reply) stepped)
      ∙ sym (step-not who s w (sym may ∙ not-true b h))

  pub step_taken : (u : Shared) → not b ≡ false → u ≡ shared_after who s t.state → record { reply = t.reply; shared = u } ≡ step_of who s w
  step_taken u h e =
      ap (λ (x : Shared). record { reply = t.reply; shared = x }) e
      ∙ ap (λ (x : Machine'.Stepped). record { reply = x.reply; shared = shared_after who s x.state }) stepped
      ∙ sym (step_may who s w (sym may ∙ not-false b h))

-- ---- a walk

module _ (who : Kernel) (size n m d k budget : ℕ) (s : Shared) (l : List ℕ) where
  -- what `walk` ensures
  abbrev pub Answers : List ℕ → Walked → Type 0
  Answers after r =
      (r ≡ walk_of who size n m d k budget s l) ×
      ((after ≡ list_of who size n m d k budget s l) × (refusal_of who size n m d k s (length l) ≡ Ok tt → Demand3 (size_of size) n m d k budget (state_for who s) l after (walked_by who r)))

  -- the same of an ordinary walk
  abbrev pub Ordinary : State → List ℕ → Walk'.Walked → Type 0
  Ordinary a after r =
      (r ≡ Walk.walk_of size n m d k budget a l) ×
      ((after ≡ (Walk.whole_of size n m d k budget a l).list) × (Walk.refusal_of size n m d k a (length l) ≡ Ok tt → Demand3 (size_of size) n m d k budget a l after r))

  module _ (a : State) (b : Bool) (has : a ≡ state_for who s) (may : b ≡ may_walk who n m d k) where
    pub walk-barred : (r q : Reply) → not b ≡ true → r ≡ Walk.refusal_of size n m d k a (length l) → q ≡ barred r → Answers l (record { reply = q; count = 0; visited = 0; shared = s })
    walk-barred r q h er eq =
        let no : may_walk who n m d k ≡ false = sym may ∙ not-true b h in
        let same : q ≡ barred (Walk.refusal_of size n m d k (state_for who s) (length l)) = eq ∙ ap barred (er ∙ ap (λ (x : State). Walk.refusal_of size n m d k x (length l)) has) in (
          ap (λ (x : Reply). record { reply = x; count = 0; visited = 0; shared = s }) same ∙ sym (walk-not who size n m d k budget s l no),
          (sym (list_not who size n m d k budget s l no), λ e. absurd (barred_done _ (sym (refusal-not who size n m d k s no (length l)) ∙ e))),
        )

    taken : (after : List ℕ) (r : Walk'.Walked) → may_walk who n m d k ≡ true → Ordinary (state_for who s) after r → Answers after (walked_for who s r)
    taken after r y o =
        let reply = refusal_may who size n m d k s y (length l) in
        let back : r ≡ walked_by who (walked_for who s r) = ap (λ (x : State). record { reply = r.reply; count = r.count; visited = r.visited; state = x }) (sym (left_has who s r.state)) in (
          ap (walked_for who s) o.0 ∙ sym (walk_may who size n m d k budget s l y),
          (o.1.0 ∙ sym (list_may who size n m d k budget s l y), λ e. subst (λ (x : Walk'.Walked). Demand3 (size_of size) n m d k budget (state_for who s) l after x) back (o.1.1 (sym reply ∙ e))),
        )

    pub walk_taken : (after : List ℕ) (r : Walk'.Walked) (u : Shared) → not b ≡ false → Ordinary a after r → u ≡ shared_after who s r.state
        → Answers after (record { reply = r.reply; count = r.count; visited = r.visited; shared = u })
    walk_taken after r u h o eu =
        subst (λ (x : Shared). Answers after (record { reply = r.reply; count = r.count; visited = r.visited; shared = x })) (sym eu)
        (taken after r (sym may ∙ not-false b h) (subst (λ (x : State). Ordinary x after r) has o))
