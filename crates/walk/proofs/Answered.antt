-- What a walk answers, refused or not. Assumes nothing but what the types of its arguments say.
use Rattle.replies.specs.declared.Refusal.{Refusal}
use Rattle.replies.specs.Reply.{Reply, is_done}
use Rattle.std.specs.Prelude.{Ok, Err}
use Rattle.std.proofs.Common.{◌≡◌, ℕ, Bool, false, List, length, sym, ap, ◌∙◌, subst, subst₂}
use Rattle.bits.specs.Choice.{pick}
use Rattle.bits.proofs.Searches.{never}
use Rattle.registers.specs.declared.State.{State}
use Rattle.words.specs.Words.{size_of}
use Rattle.walk.specs.declared.Walked.{Walked}
use Rattle.walk.specs.Demand.{Demand3}
use Rattle.walk.specs.Plain.{Walk, begin}
use Rattle.walk.specs.Walk.{plain_walk, walked, refusal_of, whole_of, walk_of}
use Rattle.walk.specs.Lengths.{Typed}
use Rattle.walk.proofs.Accepted.{accepted_within}
use Rattle.walk.proofs.Demands.{demand3}

module _ (size n m d k budget : ℕ) (s : State) (l : List ℕ) where
  abbrev reply : Reply
  reply = refusal_of size n m d k s (length l)

  -- what `walk` ensures
  abbrev pub Answers : List ℕ → Walked → Type 0
  Answers after r =
      (r ≡ walk_of size n m d k budget s l) ×
      ((after ≡ (whole_of size n m d k budget s l).list) × (refusal_of size n m d k s (length l) ≡ Ok tt → Demand3 (size_of size) n m d k budget s l after r))

  abbrev refusal : Walked
  refusal = record { reply = reply; count = 0; visited = 0; state = s }

  pub refused : {r : Reply} {e : Refusal} → r ≡ refusal_of size n m d k s (length l) → r ≡ Err e → Answers l (record { reply = Err e; count = 0; visited = 0; state = s })
  unfolding walk_of whole_of
  refused er h =
      let is : reply ≡ Err _ = sym er ∙ h in
      let no : is_done reply ≡ false = ap is_done is in (
        ap (λ (q : Reply). record { reply = q; count = 0; visited = 0; state = s }) (sym is) ∙ sym (ap (λ (b : Bool). pick b (walked (whole_of size n m d k budget s l)) refusal) no),
        (sym (ap (λ (b : Bool). (pick b (plain_walk (size_of size) n m d k budget s l) (begin s l)).list) no), λ e. never (ap is_done e) no),
      )

  pub whole_accepted : refusal_of size n m d k s (length l) ≡ Ok tt → whole_of size n m d k budget s l ≡ plain_walk (size_of size) n m d k budget s l
  unfolding whole_of
  whole_accepted e = ap (λ (r : Reply). pick (is_done r) (plain_walk (size_of size) n m d k budget s l) (begin s l)) e

  pub whole-refused : is_done (refusal_of size n m d k s (length l)) ≡ false → whole_of size n m d k budget s l ≡ begin s l
  unfolding whole_of
  whole-refused e = ap (λ (b : Bool). pick b (plain_walk (size_of size) n m d k budget s l) (begin s l)) e

  pub answer_accepted : refusal_of size n m d k s (length l) ≡ Ok tt → walk_of size n m d k budget s l ≡ walked (plain_walk (size_of size) n m d k budget s l)
  unfolding walk_of
  answer_accepted e = ap (λ (r : Reply). pick (is_done r) (walked (whole_of size n m d k budget s l)) (record { reply = r; count = 0; visited = 0; state = s })) e ∙ ap walked (whole_accepted e)

  pub answer-refused : is_done (refusal_of size n m d k s (length l)) ≡ false → walk_of size n m d k budget s l ≡ record { reply = refusal_of size n m d k s (length l); count = 0; visited = 0; state = s }
  unfolding walk_of
  answer-refused e = ap (λ (b : Bool). pick b (walked (whole_of size n m d k budget s l)) refusal) e

  pub accepted : {after : List ℕ} {r : Walked} → r ≡ walked (plain_walk (size_of size) n m d k budget s l) → after ≡ (plain_walk (size_of size) n m d k budget s l).list
      → Typed s → refusal_of size n m d k s (length l) ≡ Ok tt → Answers after r
  accepted er el typed e = (
    er ∙ sym (answer_accepted e),
    (
      el ∙ sym (ap (λ (w : Walk State). w.list) (whole_accepted e)),
      λ _. subst₂ (λ (x : Walked) (y : List ℕ). Demand3 (size_of size) n m d k budget s l y x) (sym er) (sym el)
          (demand3 (size_of size) n m d k s l (accepted_within size n m d k s l typed e) budget),
    ),
  )

  -- demand 3 of the answer as the definition has it
  pub demand_of : {after : List ℕ} {r : Walked} → Answers after r → refusal_of size n m d k s (length l) ≡ Ok tt → Demand3 (size_of size) n m d k budget s l after (walk_of size n m d k budget s l)
  demand_of {after} h e = subst (λ (x : Walked). Demand3 (size_of size) n m d k budget s l after x) h.0 (h.1.1 e)
