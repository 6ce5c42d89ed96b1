-- What `fold_in` and `fold` answer. Assumes nothing but what `walk` ensures.
use Rattle.replies.specs.Reply.{Reply, is_done}
use Rattle.std.specs.Prelude.{Ok, Err}
use mathlib.Core.Bool.{Bool, true, false}
use mathlib.Core.List.{List, map}
use mathlib.Core.Path.{◌≡◌, refl, sym, ap, ◌∙◌}
use Prim.Native.Nat.{ℕ, ◌≤◌}
use native.Mathlib.Omega.{arith}
use lib.ListN.{length, take, replicate, length-replicate}
use Rattle.bits.specs.Choice.{pick}
use Rattle.bits.proofs.Searches.{never}
use Rattle.registers.specs.declared.State.{State}
use Rattle.words.specs.Words.{size_of}
use Rattle.walk.specs.declared.Walked.{Walked}
use Rattle.walk.specs.Demand.{Demand3}
use Rattle.walk.specs.Walk.{refusal_of, whole_of, walk_of}
use Rattle.walk.proofs.Accepted.{accepted_when}
use Rattle.walk.proofs.Answered.{answer-refused}
use Rattle.fold.specs.Table.{fold_unit}
use Rattle.fold.specs.Fold.{longest, budget, title_state, title_answer, title_list, folded_first, fold_of, fold_reply}
use Rattle.fold.proofs.Folding.{first_part}
use Rattle.fold.proofs.Titles.{fold_table, fold_any_list, lent_folds}

module _ (vl : ℕ) (t l after : List ℕ) (s : State) (r : Walked) where
  -- what is known after the walk
  abbrev pub Walks : Type 0
  Walks =
      (r ≡ walk_of 1 0 1 0 1 budget s l) ×
      ((after ≡ (whole_of 1 0 1 0 1 budget s l).list) × (refusal_of 1 0 1 0 1 s (length l) ≡ Ok tt → Demand3 (size_of 1) 0 1 0 1 budget s l after r))

  -- what `fold_in` ensures, with the title at its end
  abbrev pub Answers : List ℕ → Type 0
  Answers last = (r ≡ title_answer vl (length t) l) × ((after ≡ title_list vl (length t) l) × (last ≡ fold_of vl l t))

  -- a walk whose reply is 0 was not refused
  not-refused : Walks → is_done r.reply ≡ true → refusal_of 1 0 1 0 1 s (length l) ≡ Ok tt
  not-refused w h = by (refusal_of 1 0 1 0 1 s (length l)) refl
    where
      by : (q : Reply) → refusal_of 1 0 1 0 1 s (length l) ≡ q → refusal_of 1 0 1 0 1 s (length l) ≡ Ok tt
      by (Ok tt) e = e
      by (Err _) e = never h (ap (λ (x : Walked). is_done x.reply) (w.0 ∙ answer-refused 1 0 1 0 1 budget s l (ap is_done e)) ∙ ap is_done e)

  -- and then each position that it visited has a place
  pub visited_fits : (b : Bool) → Walks → b ≡ is_done r.reply → b ≡ true → r.visited ≤ length after
  visited_fits b w e n =
      let accepted = not-refused w (sym e ∙ n) in
      let d = w.1.1 accepted in
      omega (arith, d.within, d.places, ((accepted_when 1 0 1 0 1 s (length l)).1 accepted).room)

  module _ (is : s ≡ title_state vl (length t)) (w : Walks) where
    answer : r ≡ title_answer vl (length t) l
    answer = w.0 ∙ ap (λ (s : State). walk_of 1 0 1 0 1 budget s l) is

    list : after ≡ title_list vl (length t) l
    list = w.1.0 ∙ ap (λ (s : State). (whole_of 1 0 1 0 1 budget s l).list) is

    pub refused : (b : Bool) → b ≡ is_done r.reply → b ≡ false → Answers t
    unfolding fold_of
    refused b e n = (answer, (list, sym (ap (λ (b : Bool). pick b (folded_first (title_list vl (length t) l) (title_answer vl (length t) l).visited t) t) (ap (λ (x : Walked). is_done x.reply) (sym answer) ∙ sym e ∙ n))))

    pub done : (b : Bool) (last : List ℕ) → b ≡ is_done r.reply → b ≡ true → last ≡ folded_first (take r.visited after) (length (take r.visited after)) t → Answers last
    unfolding fold_of
    done b last e n f =
        let by_walk_lem : last ≡ folded_first (title_list vl (length t) l) (title_answer vl (length t) l).visited t =
        f ∙ first_part after t r.visited (visited_fits b w e n)
        ∙ ap (λ (p : List ℕ). folded_first p r.visited t) list ∙ ap (λ (x : Walked). folded_first (title_list vl (length t) l) x.visited t) answer in (
          answer,
          (
            list,
            by_walk_lem
                ∙ sym (ap (λ (b : Bool). pick b (folded_first (title_list vl (length t) l) (title_answer vl (length t) l).visited t) t) (ap (λ (x : Walked). is_done x.reply) (sym answer) ∙ sym e ∙ n)),
          ),
        )

-- what `fold` ensures, with its reply and the title at its end
abbrev pub FoldAnswers : ℕ → List ℕ → List ℕ → Reply → Type 0
FoldAnswers vl t last r = (r ≡ fold_reply vl (length t)) × ((last ≡ fold_of vl (replicate longest 0) t) × (r ≡ Ok tt → last ≡ map fold_unit t))

-- with 4,096 places
pub long_list : (vl : ℕ) (t last : List ℕ) (r : Reply) → r ≡ (title_answer vl (length t) (replicate longest 0)).reply → last ≡ fold_of vl (replicate longest 0) t → FoldAnswers vl t last r
long_list vl t last r er el =
    let told : r ≡ fold_reply vl (length t) = er ∙ (lent_folds vl t).reply in
    (told, (el, λ e. el ∙ fold_table vl t (sym told ∙ e)))

-- with fewer, for a title that has a place for each unit
pub short_list : (vl n : ℕ) (t last : List ℕ) (r : Reply) → n ≤ longest → length t ≤ n → r ≡ (title_answer vl (length t) (replicate n 0)).reply → last ≡ fold_of vl (replicate n 0) t → FoldAnswers vl t last r
short_list vl n t last r h fits er el =
    let (reply, title) = fold_any_list vl (replicate n 0) t (omega arith) (rw (length-replicate {A = ℕ} n 0) fits) in
    long_list vl t last r (er ∙ reply) (el ∙ title)
