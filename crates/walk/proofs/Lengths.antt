-- Two vector lengths: a walk's positions hang on start and limit alone. Assumes nothing but what the types of the walks' arguments say.
use Rattle.std.specs.Prelude.{Ok}
use Rattle.std.proofs.Common.{◌≡◌, ℕ, ◌-◌, ◌<◌, ◌≤◌, List, length, get_or, sym, ◌∙◌, subst, arith, ext_get_or}
use native.Mathlib.Decide.{dec_lt}
use Rattle.registers.specs.declared.State.{State}
use Rattle.registers.specs.State.{read_x}
use Rattle.words.specs.Words.{size_of}
use Rattle.walk.specs.Demand.{needed}
use Rattle.walk.specs.Plain.{Walk}
use Rattle.walk.specs.Walk.{distance, refusal_of, whole_of}
use Rattle.walk.specs.Lengths.{Typed, Wrote}
use Rattle.walk.proofs.Accepted.{accepted_within}
use Rattle.walk.proofs.Answered.{whole_accepted}
use Rattle.walk.proofs.Demands.{demand3}

-- two such walks leave the same list
wrote_same : (start d : ℕ) (l : List ℕ) (v w : Walk State) → Wrote start d l v → Wrote start d l w → v.list ≡ w.list
wrote_same start d l v w p q = ext_get_or 0 _ _ (p.places ∙ sym q.places) at
  where
    at : (i : ℕ) → i < length v.list → get_or v.list i 0 ≡ get_or w.list i 0
    at i _ = elim (dec_lt i d) [
      | yes h ↦ p.visits i h ∙ sym (q.visits i h)
      | no h ↦ p.untouched i (omega arith) ∙ sym (q.untouched i (omega arith))
    ]

module _ (size n m d k : ℕ) (l : List ℕ) where
  -- a walk with budget enough
  pub wrote : (b : ℕ) (s : State) → Typed s → refusal_of size n m d k s (length l) ≡ Ok tt → needed (size_of size) n m s ≤ b
      → Wrote (read_x s n) (distance n m s) l (whole_of size n m d k b s l)
  wrote b s typed e h =
      let r = demand3 (size_of size) n m d k s l (accepted_within size n m d k s l typed e) b in
      let all = (r.enough h).visited in
      subst (Wrote (read_x s n) (distance n m s) l) (sym (whole_accepted size n m d k b s l e)) record {
        visited = all;
        visits = λ i q. r.visits i (omega arith);
        untouched = λ i q. r.untouched i (omega arith);
        places = r.places;
      }

  -- Two states, of whatever vector lengths, with one start and one limit, and budgets that suffice: both walks write start .. limit - 1, and leave the same list
  pub two_lengths : (a b : ℕ) (s t : State) → Typed s → Typed t → refusal_of size n m d k s (length l) ≡ Ok tt → refusal_of size n m d k t (length l) ≡ Ok tt
      → read_x t n ≡ read_x s n → read_x t m ≡ read_x s m → needed (size_of size) n m s ≤ a → needed (size_of size) n m t ≤ b
      → Wrote (read_x s n) (distance n m s) l (whole_of size n m d k a s l) × Wrote (read_x s n) (distance n m s) l (whole_of size n m d k b t l)
      × ((whole_of size n m d k a s l).list ≡ (whole_of size n m d k b t l).list)
  two_lengths a b s t ts tt es et starts limits hs ht =
      let p = wrote a s ts es hs in
      let q : Wrote (read_x s n) (distance n m s) l (whole_of size n m d k b t l) =
      subst (λ (x : ℕ). Wrote x (read_x s m - x) l (whole_of size n m d k b t l)) starts
      (subst (λ (y : ℕ). Wrote (read_x t n) (y - read_x t n) l (whole_of size n m d k b t l)) limits (wrote b t tt et ht)) in
      (p, q, wrote_same (read_x s n) (distance n m s) l _ _ p q)
