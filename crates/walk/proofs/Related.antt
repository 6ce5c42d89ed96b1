-- What every instruction of a walk keeps, the walk keeps, at every budget: a property of its states, or a relation between those of two walks. Assumes nothing.
use Rattle.std.proofs.Common.{◌≡◌, ℕ, zero, suc, ◌+◌, Bool, true, false, List, set, refl, ap, ◌∙◌, subst, ap₂}
use Rattle.bits.specs.Choice.{pick}
use Rattle.walk.specs.declared.Phase.{Phase}
use Rattle.walk.specs.declared.Phase.TheVariants as P
use Rattle.walk.specs.Plain.{WalkInstructions, Walk, begin, advanced, execute, turn, run}

-- ---- a property

pub record Keeps {S : Type 0} (m : WalkInstructions S) (I : S → Type 0) : Type 0 where
  pub pfalse : (s : S) → I s → I (m.pfalse s)
  pub whilelo : (s : S) → I s → I (m.whilelo s)
  pub pnext : (s : S) → I s → I (m.pnext s)
  pub incp : (s : S) → I s → I (m.incp s)

module _ {S : Type 0} (m : WalkInstructions S) (I : S → Type 0) (keeps : Keeps m I) where
  -- on Z or not, PNEXT's state
  moved : (z : Bool) (s : S) (w : Walk S) → I s → I (advanced m z s w).state
  moved true s w h = h
  moved false s w h = h

  executed : (p : Phase) (w : Walk S) → I w.state → I (execute m p w).state
  executed P.Pfalse w h = keeps.pfalse w.state h
  executed P.Whilelo w h = keeps.whilelo w.state h
  executed P.Pnext w h = moved (m.zero_flag (m.pnext w.state)) (m.pnext w.state) w (keeps.pnext w.state h)
  executed P.Incp w h = keeps.incp w.state h

  turned : (w : Walk S) → I w.state → I (turn m w).state
  turned w h = go w.ended
    where
      go : (b : Bool) → I (pick b w (execute m w.next w)).state
      go true = h
      go false = executed w.next w h

  pub run_keeps : (b : ℕ) (w : Walk S) → I w.state → I (run m b w).state
  unfolding run
  run_keeps zero w h = h
  run_keeps (suc b) w h = turned (run m b w) (run_keeps b w h)

-- ---- a relation

-- related states have the same flag Z and the same position, and every instruction keeps them related
pub record Agrees {S T : Type 0} (m : WalkInstructions S) (o : WalkInstructions T) (R : S → T → Type 0) : Type 0 where
  pub pfalse : (s : S) (t : T) → R s t → R (m.pfalse s) (o.pfalse t)
  pub whilelo : (s : S) (t : T) → R s t → R (m.whilelo s) (o.whilelo t)
  pub pnext : (s : S) (t : T) → R s t → R (m.pnext s) (o.pnext t)
  pub incp : (s : S) (t : T) → R s t → R (m.incp s) (o.incp t)
  pub zero_flag : (s : S) (t : T) → R s t → m.zero_flag s ≡ o.zero_flag t
  pub position : (s : S) (t : T) → R s t → m.position s ≡ o.position t

-- two walks at the same place
pub record Related {S T : Type 0} (R : S → T → Type 0) (w : Walk S) (v : Walk T) : Type 0 where
  pub state : R w.state v.state
  pub list : w.list ≡ v.list
  pub count : w.count ≡ v.count
  pub visited : w.visited ≡ v.visited
  pub next : w.next ≡ v.next
  pub ended : w.ended ≡ v.ended

module _ {S T : Type 0} (m : WalkInstructions S) (o : WalkInstructions T) (R : S → T → Type 0) (agrees : Agrees m o R) where
  both_moved : (z : Bool) (s : S) (t : T) (w : Walk S) (v : Walk T) → R s t → Related R w v → Related R (advanced m z s w) (advanced o z t v)
  both_moved true s t w v r h = record { state = r; list = h.list; count = ap (λ c. c + 1) h.count; visited = h.visited; next = refl; ended = refl }
  both_moved false s t w v r h = record {
    state = r;
    list = ap₂ (λ (l : List ℕ) (q : ℕ). set l q (m.position s)) h.list h.visited ∙ ap (set v.list v.visited) (agrees.position s t r);
    count = ap (λ c. c + 1) h.count;
    visited = ap (λ c. c + 1) h.visited;
    next = refl;
    ended = refl;
  }

  both_executed : (p : Phase) (w : Walk S) (v : Walk T) → Related R w v → Related R (execute m p w) (execute o p v)
  both_executed P.Pfalse w v h =
      record { state = agrees.pfalse w.state v.state h.state; list = h.list; count = ap (λ c. c + 1) h.count; visited = h.visited; next = refl; ended = refl }
  both_executed P.Whilelo w v h =
      let r = agrees.whilelo w.state v.state h.state in
      record { state = r; list = h.list; count = ap (λ c. c + 1) h.count; visited = h.visited; next = refl; ended = agrees.zero_flag _ _ r }
  both_executed P.Pnext w v h =
      let r = agrees.pnext w.state v.state h.state in
      subst (λ (z : Bool). Related R (execute m P.Pnext w) (advanced o z (o.pnext v.state) v)) (agrees.zero_flag _ _ r)
      (both_moved (m.zero_flag (m.pnext w.state)) (m.pnext w.state) (o.pnext v.state) w v r h)
  both_executed P.Incp w v h =
      record { state = agrees.incp w.state v.state h.state; list = h.list; count = ap (λ c. c + 1) h.count; visited = h.visited; next = refl; ended = refl }

  both_turned : (w : Walk S) (v : Walk T) → Related R w v → Related R (turn m w) (turn o v)
  both_turned w v h = subst (λ (e : Bool). Related R (turn m w) (pick e v (execute o v.next v))) h.ended (go w.ended)
    where
      go : (b : Bool) → Related R (pick b w (execute m w.next w)) (pick b v (execute o v.next v))
      go true = h
      go false = subst (λ (p : Phase). Related R (execute m w.next w) (execute o p v)) h.next (both_executed w.next w v h)

  pub run_related : (b : ℕ) (w : Walk S) (v : Walk T) → Related R w v → Related R (run m b w) (run o b v)
  unfolding run
  run_related zero w v h = h
  run_related (suc b) w v h = both_turned (run m b w) (run o b v) (run_related b w v h)

  -- from related states, with one list
  pub begin_related : (b : ℕ) (s : S) (t : T) (l : List ℕ) → R s t → Related R (run m b (begin s l)) (run o b (begin t l))
  begin_related b s t l r = run_related b (begin s l) (begin t l) (record { state = r; list = refl; count = refl; visited = refl; next = refl; ended = refl })
