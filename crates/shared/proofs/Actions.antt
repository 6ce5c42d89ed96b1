-- One action of a kernel: what it answers and leaves follows from what is alike to that kernel; it changes nothing else; and a legal state stays legal. Assumes nothing.
use Rattle.replies.specs.Reply.{Reply, is_done}
use mathlib.Core.Bool.{Bool, true, false, ◌||◌}
use mathlib.Core.List.{List, []}
use mathlib.Core.Path.{◌≡◌, refl, sym, ap, ap₂, ◌∙◌, subst, subst₂}
use Prim.Native.Nat.{ℕ, ◌<◌}
use native.Mathlib.Omega.{arith}
use lib.Dec.{leb, ltb}
use lib.ListN.{length, get_or-eq_default}
use borrow.Author.Tests.{le-ltb, lt-leb, leb-true, ltb-true}
use Rattle.predicates.specs.Predicate.{all_false}
use Rattle.tally.specs.Counts.{counts_of, no_counts}
use Rattle.registers.specs.declared.State.{State}
use Rattle.registers.specs.Legal.{legal}
use Rattle.registers.specs.State.{ffr, read_x, read_p, read_counts, with_flags}
use Rattle.registers.proofs.Legality.{legal_sized, kept_counts, with_flags-legal}
use Rattle.registers.proofs.Registers.{Sized}
use Rattle.words.specs.Words.{decode_of}
use Rattle.machine.specs.declared.Stepped as Machine'
use Rattle.machine.specs.Step as Machine
use Rattle.machine.proofs.Steps.{step-legal, step_kept}
use Rattle.walk.specs.declared.Walked as Walk'
use Rattle.walk.specs.Walk as Walk
use Rattle.walk.proofs.Kept.{walk-legal}
use Rattle.shared.specs.declared.Kernel.{Kernel}
use Rattle.shared.specs.declared.Kernel.TheVariants.{First, Second}
use Rattle.shared.specs.declared.Shared.{Shared}
use Rattle.shared.specs.declared.Stepped.{Stepped}
use Rattle.shared.specs.declared.Walked.{Walked}
use Rattle.shared.specs.Inside.{may_step, barred}
use Rattle.shared.specs.Ownership.{owns_x, owns_p, may_name_x, may_name_p, may_walk}
use Rattle.shared.specs.Shared.{flags_for, state_for, shared_after, step_of, walked_for, walk_of, list_of}
use Rattle.shared.specs.Schedule.{Action, Answer, answer_of, after_action, Alike}
use Rattle.shared.specs.Schedule.Action.{step, walk}
use Rattle.shared.specs.Isolation.{other, Frame}
use Rattle.shared.proofs.Same.{Same, Apart, both}
use Rattle.shared.proofs.Acting.{after_same, barred-same, after_apart, all_walked, barred-refusal-same, Agreeing, walked_same, walked_apart}
use Rattle.shared.proofs.Ways.{step_may, step-not, step-illegal, walk_may, walk-not, list_may, list_not, walk_refused, walk-illegal}

-- ---- what a kernel owns it may name, and the other may not

module _ (who : Kernel) (r : ℕ) where
  named_x : leb 31 r ≡ false → may_name_x who r ≡ owns_x who r
  unfolding may_name_x
  named_x h = ap (λ (b : Bool). b || owns_x who r) h

  named_p : ltb ffr r ≡ false → may_name_p who r ≡ owns_p who r
  unfolding may_name_p
  named_p h = ap (λ (b : Bool). b || owns_p who r) h

  or-true : (b : Bool) → (b || true) ≡ true
  or-true true = refl
  or-true false = refl

  pub own_x : owns_x who r ≡ true → may_name_x who r ≡ true
  unfolding may_name_x
  own_x h = ap (λ (b : Bool). leb 31 r || b) h ∙ or-true (leb 31 r)

  pub own_p : owns_p who r ≡ true → may_name_p who r ≡ true
  unfolding may_name_p
  own_p h = ap (λ (b : Bool). ltb ffr r || b) h ∙ or-true (ltb ffr r)

pub others_x : (who : Kernel) (r : ℕ) → owns_x who r ≡ true → may_name_x (other who) r ≡ false
others_x First r h = let l = ltb-true r 16 h in named_x Second r (lt-leb 31 r (omega arith)) ∙ rw (lt-leb 16 r l) refl
others_x Second r h =
    let (a, b) = both (leb 16 r) (ltb r 31) h in
    let l = leb-true 16 r a in
    named_x First r (lt-leb 31 r (ltb-true r 31 b)) ∙ le-ltb r 16 l

pub others_p : (who : Kernel) (r : ℕ) → owns_p who r ≡ true → may_name_p (other who) r ≡ false
others_p First r h = let l = ltb-true r 8 h in named_p Second r (le-ltb 16 r (omega arith)) ∙ rw (lt-leb 8 r l) refl
others_p Second r h =
    let (a, b) = both (leb 8 r) (ltb r ffr) h in
    let l = leb-true 8 r a in
    let m = ltb-true r 16 b in
    named_p First r (le-ltb 16 r (omega arith)) ∙ le-ltb r 8 l

-- ---- alike shared states, and the states as the kernel has them

owned_below : (who : Kernel) (r : ℕ) → owns_p who r ≡ true → r < 16
owned_below First r h = let l = ltb-true r 8 h in omega arith
owned_below Second r h = ltb-true r 16 (both (leb 8 r) (ltb r ffr) h).1

-- counts follow from the registers that they stand beside
pub alike_counts : (who : Kernel) (s t : Shared) → legal s.state ≡ true → legal t.state ≡ true → Alike who s t → (r : ℕ) → owns_p who r ≡ true → read_counts s.state r ≡ read_counts t.state r
alike_counts who s t ks kt h r o =
    sym (kept_counts s.state r ks (owned_below who r o)) ∙ ap₂ counts_of h.vl (h.p r o) ∙ kept_counts t.state r kt (owned_below who r o)

module _ (who : Kernel) (s t : Shared) (ks : legal s.state ≡ true) (kt : legal t.state ≡ true) where
  pub alike_same : Alike who s t → Same who (state_for who s) (state_for who t)
  unfolding state_for with_flags
  alike_same h = record {
    vl = h.vl;
    level = h.level;
    access = h.access;
    flags = h.flags;
    x = x;
    p = p;
    counts = counts;
    left = record { xs = left.xs; ps = left.ps; cs = left.cs };
    right = record { xs = right.xs; ps = right.ps; cs = right.cs };
  }
    where
      left : Sized s.state
      left = legal_sized s.state ks

      right : Sized t.state
      right = legal_sized t.state kt

      x : (r : ℕ) → may_name_x who r ≡ true → read_x s.state r ≡ read_x t.state r
      x r m = go (leb 31 r) refl
        where
          go : (b : Bool) → leb 31 r ≡ b → read_x s.state r ≡ read_x t.state r
          go true e = let l = leb-true 31 r e in get_or-eq_default s.state.x 0 (omega (arith, left.xs)) ∙ sym (get_or-eq_default t.state.x 0 (omega (arith, right.xs)))
          go false e = h.x r (sym (named_x who r e) ∙ m)

      p : (r : ℕ) → may_name_p who r ≡ true → read_p s.state r ≡ read_p t.state r
      p r m = go (ltb ffr r) refl
        where
          go : (b : Bool) → ltb ffr r ≡ b → read_p s.state r ≡ read_p t.state r
          go true e = let l = ltb-true 16 r e in get_or-eq_default s.state.p all_false (omega (arith, left.ps)) ∙ sym (get_or-eq_default t.state.p all_false (omega (arith, right.ps)))
          go false e = h.p r (sym (named_p who r e) ∙ m)

      counts : (r : ℕ) → may_name_p who r ≡ true → read_counts s.state r ≡ read_counts t.state r
      counts r m = go (ltb ffr r) refl
        where
          go : (b : Bool) → ltb ffr r ≡ b → read_counts s.state r ≡ read_counts t.state r
          go true e = let l = ltb-true 16 r e in get_or-eq_default s.state.counts no_counts (omega (arith, left.cs)) ∙ sym (get_or-eq_default t.state.counts no_counts (omega (arith, right.cs)))
          go false e = alike_counts who s t ks kt h r (sym (named_p who r e) ∙ m)

pub same_alike : (who : Kernel) (s t : Shared) (a b : State) → Same who a b → Alike who (shared_after who s a) (shared_after who t b)
unfolding shared_after with_flags
same_alike First s t a b h =
    record { vl = h.vl; level = h.level; access = h.access; x = λ r o. h.x r (own_x First r o); p = λ r o. h.p r (own_p First r o); flags = h.flags }
same_alike Second s t a b h =
    record { vl = h.vl; level = h.level; access = h.access; x = λ r o. h.x r (own_x Second r o); p = λ r o. h.p r (own_p Second r o); flags = h.flags }

-- ---- what an action leaves alone

frame_none : (who : Kernel) (s : Shared) → Frame who s s
frame_none who s = record { vl = refl; level = refl; access = refl; x = λ r h. refl; p = λ r h. refl; counts = λ r h. refl; flags = refl }

apart_frame : (who : Kernel) (s : Shared) (b : State) → Apart who (state_for who s) b → Frame who s (shared_after who s b)
unfolding state_for shared_after with_flags
apart_frame First s b h = record { vl = h.vl; level = h.level; access = h.access; x = h.x; p = h.p; counts = h.counts; flags = refl }
apart_frame Second s b h = record { vl = h.vl; level = h.level; access = h.access; x = h.x; p = h.p; counts = h.counts; flags = refl }

-- what one kernel leaves alone is alike to the other
pub frame_alike : (who : Kernel) (s t : Shared) → Frame (other who) s t → Alike who s t
frame_alike who s t f = record {
  vl = sym f.vl;
  level = sym f.level;
  access = sym f.access;
  x = λ r h. sym (f.x r (others_x who r h));
  p = λ r h. sym (f.p r (others_p who r h));
  flags = back who f.flags;
}
  where
    back : (w : Kernel) → flags_for (other (other w)) t ≡ flags_for (other (other w)) s → flags_for w s ≡ flags_for w t
    back First e = sym e
    back Second e = sym e

-- ---- legality

kept_for : (who : Kernel) (s : Shared) → legal s.state ≡ true → legal (state_for who s) ≡ true
unfolding state_for with_flags
kept_for who s k = with_flags-legal s.state (flags_for who s) ∙ k

kept_after : (who : Kernel) (s : Shared) (t : State) → legal t ≡ true → legal (shared_after who s t).state ≡ true
unfolding shared_after with_flags
kept_after First s t k = k
kept_after Second s t k = with_flags-legal t s.state.flags ∙ k

-- ---- a step

module _ (who : Kernel) (s : Shared) (w : ℕ) where
  abbrev has : State
  has = state_for who s

  step_stays : legal s.state ≡ true → legal (step_of who s w).shared.state ≡ true
  step_stays k = go (may_step who (decode_of w)) refl
    where
      go : (b : Bool) → may_step who (decode_of w) ≡ b → legal (step_of who s w).shared.state ≡ true
      go true h = subst (λ (t : Stepped). legal t.shared.state ≡ true) (sym (step_may who s w h)) (kept_after who s _ (step_kept has w (kept_for who s k)))
      go false h = subst (λ (t : Stepped). legal t.shared.state ≡ true) (sym (step-not who s w h)) k

  pub step_frame : legal s.state ≡ true → Frame who s (step_of who s w).shared
  step_frame k = go (may_step who (decode_of w)) refl
    where
      go : (b : Bool) → may_step who (decode_of w) ≡ b → Frame who s (step_of who s w).shared
      go true h =
          subst (λ (t : Stepped). Frame who s t.shared) (sym (step_may who s w h))
          (apart_frame who s _ (subst (λ (t : Machine'.Stepped). Apart who has t.state) (sym (step-legal has w (kept_for who s k))) (after_apart who has (decode_of w) h)))
      go false h = subst (λ (t : Stepped). Frame who s t.shared) (sym (step-not who s w h)) (frame_none who s)

step_alike : (who : Kernel) (s t : Shared) (w : ℕ) → legal s.state ≡ true → legal t.state ≡ true → Alike who s t
    → ((step_of who s w).reply ≡ (step_of who t w).reply) × Alike who (step_of who s w).shared (step_of who t w).shared
step_alike who s t w ks kt h = go (may_step who (decode_of w)) refl
  where
    a : State
    a = state_for who s

    b : State
    b = state_for who t

    same : Same who a b
    same = alike_same who s t ks kt h

    sa : Machine.step_of a w ≡ Machine.after_word a (decode_of w)
    sa = step-legal a w (kept_for who s ks)

    sb : Machine.step_of b w ≡ Machine.after_word b (decode_of w)
    sb = step-legal b w (kept_for who t kt)

    go : (m : Bool) → may_step who (decode_of w) ≡ m → ((step_of who s w).reply ≡ (step_of who t w).reply) × Alike who (step_of who s w).shared (step_of who t w).shared
    go true m =
        let (e, q) = after_same who a b same (decode_of w) m in
        subst₂ (λ (x y : Stepped). (x.reply ≡ y.reply) × Alike who x.shared y.shared) (sym (step_may who s w m)) (sym (step_may who t w m))
        (subst₂ (λ (x y : Machine'.Stepped). (x.reply ≡ y.reply) × Alike who (shared_after who s x.state) (shared_after who t y.state)) (sym sa) (sym sb) (e, same_alike who s t _ _ q))
    go false m =
        subst₂ (λ (x y : Stepped). (x.reply ≡ y.reply) × Alike who x.shared y.shared) (sym (step-not who s w m)) (sym (step-not who t w m))
        (subst₂ (λ (x y : Machine'.Stepped). (barred x.reply ≡ barred y.reply) × Alike who s t) (sym sa) (sym sb) (barred-same who a b same (decode_of w) m, h))

-- ---- a walk

module _ (who : Kernel) (size n m d k budget : ℕ) (s : Shared) (l : List ℕ) where
  abbrev ordinary : Walk'.Walked
  ordinary = Walk.walk_of size n m d k budget (state_for who s) l

  walk_stays : legal s.state ≡ true → legal (walk_of who size n m d k budget s l).shared.state ≡ true
  walk_stays h = go (may_walk who n m d k) refl
    where
      go : (b : Bool) → may_walk who n m d k ≡ b → legal (walk_of who size n m d k budget s l).shared.state ≡ true
      go true e =
          subst (λ (r : Walked). legal r.shared.state ≡ true) (sym (walk_may who size n m d k budget s l e)) (kept_after who s _ (walk-legal size n m d k budget (state_for who s) l (kept_for who s h)))
      go false e = subst (λ (r : Walked). legal r.shared.state ≡ true) (sym (walk-not who size n m d k budget s l e)) h

  walk_frame : Frame who s (walk_of who size n m d k budget s l).shared
  walk_frame = go (may_walk who n m d k) refl
    where
      go : (b : Bool) → may_walk who n m d k ≡ b → Frame who s (walk_of who size n m d k budget s l).shared
      go true e =
          subst (λ (r : Walked). Frame who s r.shared) (sym (walk_may who size n m d k budget s l e))
          (apart_frame who s _ (walked_apart who size n m d k budget (state_for who s) (state_for who s) l (all_walked who n m d k e)))
      go false e = subst (λ (r : Walked). Frame who s r.shared) (sym (walk-not who size n m d k budget s l e)) (frame_none who s)

-- ---- either

-- a legal state stays legal, refused or not
pub action_kept : (who : Kernel) (s : Shared) (a : Action) → legal s.state ≡ true → legal (after_action who s a).state ≡ true
action_kept who s (step w) h = step_stays who s w h
action_kept who s (walk size n m d k budget l) h = walk_stays who size n m d k budget s l h

-- nothing of the other kernel's changes, nor FFR
pub action_frame : (who : Kernel) (s : Shared) (a : Action) → legal s.state ≡ true → Frame who s (after_action who s a)
action_frame who s (step w) h = step_frame who s w h
action_frame who s (walk size n m d k budget l) h = walk_frame who size n m d k budget s l

-- what is answered and left follows from what is alike to the kernel
pub action_alike : (who : Kernel) (s t : Shared) (a : Action) → legal s.state ≡ true → legal t.state ≡ true → Alike who s t → (answer_of who s a ≡ answer_of who t a) × Alike who (after_action who s a) (after_action who t a)
action_alike who s t (step w) ks kt h =
    let (e, q) = step_alike who s t w ks kt h in
    (ap (λ (r : Reply). record { reply = r; count = 0; visited = 0; list = [] }) e, q)
action_alike who s t (walk size n m d k budget l) ks kt h = go (may_walk who n m d k) refl
  where
    a : State
    a = state_for who s

    b : State
    b = state_for who t

    same : Same who a b
    same = alike_same who s t ks kt h

    legal_alike : legal a ≡ legal b
    legal_alike = kept_for who s ks ∙ sym (kept_for who t kt)

    answer : Walked → List ℕ → Answer
    answer r l = record { reply = r.reply; count = r.count; visited = r.visited; list = l }

    Alike' : Walked → List ℕ → Walked → List ℕ → Type 0
    Alike' r l q o = (answer r l ≡ answer q o) × Alike who r.shared q.shared

    agree : (r q : Walk'.Walked) (o u : List ℕ) → Agreeing who r q o u → Alike' (walked_for who s r) o (walked_for who t q) u
    agree r q o u g = (
      ap₂ (λ (x : Reply) (c : ℕ). record { reply = x; count = c; visited = r.visited; list = o }) g.reply g.count
          ∙ ap₂ (λ (v : ℕ) (x : List ℕ). record { reply = q.reply; count = q.count; visited = v; list = x }) g.visited g.list,
      same_alike who s t _ _ g.state,
    )

    go : (z : Bool) → may_walk who n m d k ≡ z → Alike' (walk_of who size n m d k budget s l) (list_of who size n m d k budget s l) (walk_of who size n m d k budget t l) (list_of who size n m d k budget t l)
    go true e =
        subst₂ (λ (r : Walked) (q : Walked). Alike' r (list_of who size n m d k budget s l) q (list_of who size n m d k budget t l)) (sym (walk_may who size n m d k budget s l e)) (sym (walk_may who size n m d k budget t l e))
        (subst₂ (λ (o u : List ℕ). Alike' (walked_for who s (Walk.walk_of size n m d k budget a l)) o (walked_for who t (Walk.walk_of size n m d k budget b l)) u)
        (sym (list_may who size n m d k budget s l e)) (sym (list_may who size n m d k budget t l e))
        (agree _ _ _ _ (walked_same who size n m d k budget a b l (all_walked who n m d k e) same legal_alike)))
    go false e =
        subst₂ (λ (r : Walked) (q : Walked). Alike' r (list_of who size n m d k budget s l) q (list_of who size n m d k budget t l)) (sym (walk-not who size n m d k budget s l e)) (sym (walk-not who size n m d k budget t l e)) (
          ap₂ (λ (x : Reply) (o : List ℕ). record { reply = x; count = 0; visited = 0; list = o })
              (barred-refusal-same who a b same legal_alike size n m d k (length l)) (list_not who size n m d k budget s l e ∙ sym (list_not who size n m d k budget t l e)),
          h,
        )

-- ---- a state that reply 4 refuses

pub illegal_action : (who : Kernel) (s : Shared) (a : Action) → legal s.state ≡ false → after_action who s a ≡ s
illegal_action who s (step w) bad = ap (λ (t : Stepped). t.shared) (step-illegal who s w bad)
illegal_action who s (walk size n m d k budget l) bad = ap (λ (r : Walked). r.shared) (walk_refused who size n m d k budget s l (ap is_done (walk-illegal who size n m d k s bad (length l))))
