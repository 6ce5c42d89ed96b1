-- Two budgets: a larger one only adds. Assumes nothing but what the types of the walks' arguments say.
use Rattle.std.specs.Prelude.{Ok}
use Rattle.std.proofs.Common.{◌≡◌, ℕ, ◌+◌, ◌-◌, ◌<◌, ◌≤◌, List, length, get_or, take, sym, ap, ◌∙◌, subst, subst₂, arith, length-take, get_or-take, take-take, ext_get_or}
use Rattle.predicates.specs.Predicate.{elements}
use Rattle.replies.proofs.Replies.{not_done}
use Rattle.registers.specs.declared.State.{State}
use Rattle.registers.specs.State.{read_x}
use Rattle.words.specs.Words.{size_of}
use Rattle.walk.specs.Budgets.{Adds, SameResults}
use Rattle.walk.specs.Demand.{needed}
use Rattle.walk.specs.Lengths.{Typed}
use Rattle.walk.specs.Plain.{WalkInstructions, Walk, begin, run}
use Rattle.walk.specs.Walk.{distance, instructions_of, plain_walk, walked, refusal_of, whole_of}
use Rattle.walk.proofs.Accepted.{Within, accepted_within}
use Rattle.walk.proofs.Answered.{whole_accepted, whole-refused, answer_accepted, answer-refused}
use Rattle.walk.proofs.Closed.{enough, finished}
use Rattle.walk.proofs.Demands.{larger}
use Rattle.walk.proofs.Lanes.{laws, lane_at, Ready}
use Rattle.walk.proofs.Runs.{Later, counted-run, count_grows, run-add}

module _ {S : Type 0} (m : WalkInstructions S) (s : S) (l : List ℕ) where
  -- what was written stays
  kept_first : (v w : Walk S) → Later m v w → take v.visited v.list ≡ take v.visited w.list
  kept_first v w r = ext_get_or 0 _ _ lengths at
    where
      lengths : length (take v.visited v.list) ≡ length (take v.visited w.list)
      lengths = omega (arith, length-take v.visited v.list, length-take v.visited w.list, r.as_long)

      at : (i : ℕ) → i < length (take v.visited v.list) → get_or (take v.visited v.list) i 0 ≡ get_or (take v.visited w.list) i 0
      at i h =
          let j : i < v.visited = omega (arith, length-take v.visited v.list) in
          get_or-take v.visited v.list i 0 j ∙ sym (r.kept i j) ∙ sym (get_or-take v.visited w.list i 0 j)

  pub only_adds : (a b : ℕ) → a ≤ b → Adds m s l (run m a (begin s l)) (run m b (begin s l))
  only_adds a b h =
      let v = run m a (begin s l) in
      let w = run m b (begin s l) in
      let (through, later) = larger m a b (begin s l) h in
      let more : v.count ≤ w.count = subst (λ (u : Walk S). v.count ≤ u.count) (sym through) (count_grows m (b - a) v) in
      let split : v.count + (w.count - v.count) ≡ w.count = omega arith in
      record {
        fewer = later.further;
        first = kept_first v w later ∙ sym (take-take v.visited w.visited w.list later.further);
        passes = counted-run m a s l;
        counts = more;
        on = ap (run m (w.count - v.count)) (sym (counted-run m a s l)) ∙ sym (run-add m v.count _ _) ∙ ap (λ (n : ℕ). run m n (begin s l)) split ∙ counted-run m b s l;
      }

-- ---- the walk as it is called

module _ (size n m d k : ℕ) (s : State) (l : List ℕ) where
  abbrev M : WalkInstructions State
  M = instructions_of (size_of size) n m d k

  module _ (e : refusal_of size n m d k s (length l) ≡ Ok tt) where
    pub larger_budget : (a b : ℕ) → a ≤ b → Adds (instructions_of (size_of size) n m d k) s l (whole_of size n m d k a s l) (whole_of size n m d k b s l)
    larger_budget a b h =
        subst₂ (Adds M s l) (sym (whole_accepted size n m d k a s l e)) (sym (whole_accepted size n m d k b s l e)) (only_adds M s l a b h)

    -- all budgets at or above D + 3 R + 2 give equal results
    pub enough_same : Typed s → (a b : ℕ) → needed (size_of size) n m s ≤ a → needed (size_of size) n m s ≤ b → SameResults size n m d k a b s l
    enough_same typed a b ha hb =
        let same : plain_walk (size_of size) n m d k a s l ≡ plain_walk (size_of size) n m d k b s l = at_end a ha ∙ sym (at_end b hb) in (
          answer_accepted size n m d k a s l e ∙ ap walked same ∙ sym (answer_accepted size n m d k b s l e),
          ap (λ (w : Walk State). w.list) (whole_accepted size n m d k a s l e ∙ same ∙ sym (whole_accepted size n m d k b s l e)),
        )
      where
        g : Within (size_of size) n m d k s l
        g = accepted_within size n m d k s l typed e

        at_end : (c : ℕ) → needed (size_of size) n m s ≤ c → plain_walk (size_of size) n m d k c s l ≡ finished M s l (read_x s n) (distance n m s) (elements s.vl (size_of size))
            (lane_at (size_of size) n m d k s) (Ready (size_of size) n m d k s) (laws (size_of size) n m d k s l g) g.lanes
        at_end =
            enough M s l (read_x s n) (distance n m s) (elements s.vl (size_of size)) (lane_at (size_of size) n m d k s) (Ready (size_of size) n m d k s)
            (laws (size_of size) n m d k s l g) g.lanes

  -- no refusal but 12 looks at the budget
  pub refused-same : (refusal_of size n m d k s (length l) ≡ Ok tt → ⊥) → (a b : ℕ) → SameResults size n m d k a b s l
  refused-same refused a b =
      let e = not_done (refusal_of size n m d k s (length l)) refused in (
        answer-refused size n m d k a s l e ∙ sym (answer-refused size n m d k b s l e),
        ap (λ (w : Walk State). w.list) (whole-refused size n m d k a s l e ∙ sym (whole-refused size n m d k b s l e)),
      )
