-- Two budgets for one walk of a kernel: a larger one only adds; and such a walk taken up again. Assumes nothing but what the types of the walks' arguments say.
use Rattle.std.specs.Prelude.{Ok}
use mathlib.Core.Bool.{true}
use mathlib.Core.List.{List, ◌++◌}
use mathlib.Core.Path.{◌≡◌, refl, sym, ap, subst, subst₂, ◌∙◌}
use Prim.Native.Nat.{ℕ, ◌-◌, ◌≤◌}
use lib.ListN.{length, take, drop}
use Rattle.replies.proofs.Replies.{not_done}
use Rattle.registers.specs.declared.State.{State}
use Rattle.registers.specs.State.{with_flags}
use Rattle.words.specs.Words.{size_of}
use Rattle.walk.specs.Demand.{needed}
use Rattle.walk.specs.Lengths.{Typed}
use Rattle.walk.specs.Plain.{WalkInstructions, Walk, run}
use Rattle.walk.specs.Resumed.{grown, Resumes}
use Rattle.walk.specs.Walk.{instructions_of, walked, whole_of}
use Rattle.walk.specs.Walk as Ordinary
use Rattle.walk.proofs.Answered.{whole_accepted, answer_accepted}
use Rattle.walk.proofs.Budgets.{only_adds, enough_same}
use Rattle.walk.proofs.Resumed.{resumed}
use Rattle.walk.proofs.Runs.{counted-run}
use Rattle.shared.specs.declared.Kernel.{Kernel}
use Rattle.shared.specs.declared.Kernel.TheVariants.{First, Second}
use Rattle.shared.specs.declared.Shared.{Shared}
use Rattle.shared.specs.declared.Walked.{Walked}
use Rattle.shared.specs.Budgets.{Reached, KernelAdds, KernelSameResults, KernelResumes}
use Rattle.shared.specs.Ownership.{may_walk}
use Rattle.shared.specs.Shared.{state_for, shared_after, refusal_of, plain_of, walked_for, walk_of, list_of}
use Rattle.shared.proofs.Ways.{left_has, refusal_may, walk_refused, list_refused, walk_may, list_may}
use Rattle.shared.proofs.Walks.{owned_walks, accepted_when}

module _ (who : Kernel) (size n m d k : ℕ) (s : Shared) (l : List ℕ) where
  abbrev M : WalkInstructions State
  M = instructions_of (size_of size) n m d k

  abbrev under : ℕ → Walk State
  under b = plain_of who size n m d k b s l

  module _ (e : refusal_of who size n m d k s (length l) ≡ Ok tt) where
    -- its registers are the kernel's, and as an ordinary walk it is not refused
    may : may_walk who n m d k ≡ true
    may = let a = (accepted_when who size n m d k s (length l)).1 e in (owned_walks who size n m d k a.ordinary.registers).0 a.owned

    ordinary : Ordinary.refusal_of size n m d k (state_for who s) (length l) ≡ Ok tt
    ordinary = sym (refusal_may who size n m d k s may (length l)) ∙ e

    answered : (b : ℕ) → walk_of who size n m d k b s l ≡ walked_for who s (walked (under b))
    answered b = walk_may who size n m d k b s l may ∙ ap (walked_for who s) (answer_accepted size n m d k b (state_for who s) l ordinary)

    listed : (b : ℕ) → list_of who size n m d k b s l ≡ (under b).list
    listed b = list_may who size n m d k b s l may ∙ ap (λ (w : Walk State). w.list) (whole_accepted size n m d k b (state_for who s) l ordinary)

    reached : (b : ℕ) → Reached who size n m d k s l (walked_for who s (walked (under b))) (under b).list
    reached b =
        let same = sym (counted-run M b (state_for who s) l) in
        record { answer = ap (λ (w : Walk State). walked_for who s (walked w)) same; list = ap (λ (w : Walk State). w.list) same }

    plain_adds : (a b : ℕ) → a ≤ b → KernelAdds who size n m d k s l (walked_for who s (walked (under a))) (walked_for who s (walked (under b))) (under a).list (under b).list
    plain_adds a b h =
        let more = only_adds M (state_for who s) l a b h in
        record {
          fewer = more.fewer;
          first = more.first;
          passes = reached a;
          counts = more.counts;
          on = ap (run M ((under b).count - (under a).count)) more.passes ∙ more.on ∙ sym (counted-run M b (state_for who s) l);
          ends = reached b;
        }

    pub kernel_larger_budget : (a b : ℕ) → a ≤ b
        → KernelAdds who size n m d k s l (walk_of who size n m d k a s l) (walk_of who size n m d k b s l) (list_of who size n m d k a s l) (list_of who size n m d k b s l)
    kernel_larger_budget a b h =
        subst₂ (λ (r q : Walked). KernelAdds who size n m d k s l r q (list_of who size n m d k a s l) (list_of who size n m d k b s l)) (sym (answered a)) (sym (answered b))
        (subst₂ (λ (x y : List ℕ). KernelAdds who size n m d k s l (walked_for who s (walked (under a))) (walked_for who s (walked (under b))) x y) (sym (listed a)) (sym (listed b)) (plain_adds a b h))

    -- all budgets at or above D + 3 R + 2 give equal results
    pub kernel_enough_same : Typed s.state → (a b : ℕ) → needed (size_of size) n m s.state ≤ a → needed (size_of size) n m s.state ≤ b → KernelSameResults who size n m d k a b s l
    unfolding state_for with_flags
    kernel_enough_same typed a b ha hb =
        let (answers, lists) = enough_same size n m d k (state_for who s) l ordinary (record { fits = typed.fits }) a b ha hb in (
          walk_may who size n m d k a s l may ∙ ap (walked_for who s) answers ∙ sym (walk_may who size n m d k b s l may),
          list_may who size n m d k a s l may ∙ lists ∙ sym (list_may who size n m d k b s l may),
        )

  -- no refusal but 12 looks at the budget
  pub kernel_refused-same : (refusal_of who size n m d k s (length l) ≡ Ok tt → ⊥) → (a b : ℕ) → KernelSameResults who size n m d k a b s l
  kernel_refused-same refused a b =
      let e = not_done (refusal_of who size n m d k s (length l)) refused in (
        walk_refused who size n m d k a s l e ∙ sym (walk_refused who size n m d k b s l e),
        list_refused who size n m d k a s l e ∙ sym (list_refused who size n m d k b s l e),
      )

-- ---- taken up again

-- what a kernel leaves after another leaving of its own
left_again : (who : Kernel) (s : Shared) (t u : State) → shared_after who (shared_after who s t) u ≡ shared_after who s u
unfolding shared_after with_flags
left_again First s t u = refl
left_again Second s t u = refl

module _ (who : Kernel) (size n m d k : ℕ) (s : Shared) (l : List ℕ) (typed : Typed s.state) (e : refusal_of who size n m d k s (length l) ≡ Ok tt) (a : ℕ) where
  abbrev v : Walk State
  v = plain_of who size n m d k a s l

  -- what the kernel has next
  abbrev next : Shared
  next = shared_after who s (plain_of who size n m d k a s l).state

  -- the walk, its state as the kernel has it next
  abbrev had : Walk State
  had = record { state = state_for who next; list = v.list; count = v.count; visited = v.visited; next = v.next; ended = v.ended }

  ordinary_resumed : Resumes size n m d k a (state_for who s) l had
  unfolding state_for with_flags
  ordinary_resumed =
      let o = ordinary who size n m d k s l e in
      let same : whole_of size n m d k a (state_for who s) l ≡ had =
      whole_accepted size n m d k a (state_for who s) l o ∙ ap (λ (t : State). record { state = t; list = v.list; count = v.count; visited = v.visited; next = v.next; ended = v.ended }) (sym (left_has who s v.state)) in
      subst (Resumes size n m d k a (state_for who s) l) same (resumed size n m d k (state_for who s) l (record { fits = typed.fits }) o a)

  left : (t : Shared) (b : ℕ) (x : List ℕ) (q : refusal_of who size n m d k t (length x) ≡ Ok tt) → (walk_of who size n m d k b t x).shared ≡ shared_after who t (whole_of size n m d k b (state_for who t) x).state
  left t b x q =
      ap (λ (r : Walked). r.shared) (answered who size n m d k t x q b)
      ∙ ap (λ (w : Walk State). shared_after who t w.state) (sym (whole_accepted size n m d k b (state_for who t) x (ordinary who size n m d k t x q)))

  plain_resumed : KernelResumes who size n m d k a s l (walked_for who s (walked v)) v.list
  unfolding state_for with_flags
  plain_resumed =
      let o = grown n s.state next.state in
      let r = ordinary_resumed in
      let q : refusal_of who size n m d k next (length (drop o v.list)) ≡ (Ok tt) = refusal_may who size n m d k next (may who size n m d k s l e) _ ∙ r.accepted in
      record {
        xn = r.xn;
        stopped = r.stopped;
        accepted = q;
        list = λ b c hb hc.
            ap (λ (x : List ℕ). take o v.list ++ x) (list_may who size n m d k b next (drop o v.list) (may who size n m d k s l e)) ∙ r.list b c hb hc
            ∙ sym (list_may who size n m d k c s l (may who size n m d k s l e));
        shared = λ b c hb hc.
            left next b (drop o v.list) q ∙ left_again who s v.state _ ∙ ap (shared_after who s) (r.state b c hb hc) ∙ sym (left s c l e);
      }

  pub kernel_resumed : KernelResumes who size n m d k a s l (walk_of who size n m d k a s l) (list_of who size n m d k a s l)
  kernel_resumed = subst₂ (KernelResumes who size n m d k a s l) (sym (answered who size n m d k s l e a)) (sym (listed who size n m d k s l e a)) plain_resumed
