-- Titles folded by the walk: what is answered, and what a title becomes. Assumes nothing.
use Rattle.replies.specs.Reply.{Reply, is_done}
use Rattle.std.specs.Prelude.{Ok, Err}
use mathlib.Core.Bool.{Bool, true, false, not, ◌&&◌}
use mathlib.Core.List.{List, [], ◌∷◌, map}
use mathlib.Core.Path.{◌≡◌, refl, sym, ap, ap₂, subst, ◌∙◌}
use Prim.Native.Nat.{ℕ, zero, suc, ◌*◌, ◌^◌, ◌≤◌, ◌<◌}
use native.Mathlib.Decide.{dec_lt}
use native.Mathlib.Nat.{sub-zero, zero-add}
use native.Mathlib.Omega.{arith}
use lib.Dec.{leb, ltb}
use lib.ListN.{length, get_or, replicate, length-replicate}
use borrow.Author.Tests.{lt-ltb, le-ltb}
use Rattle.bits.specs.declared.Size.TheVariants.{H}
use Rattle.bits.specs.Choice.{pick}
use Rattle.predicates.specs.Predicate.{all_false, elements, predicate_length, has_bit_from}
use Rattle.predicates.proofs.Lengths.{elements_exact}
use Rattle.predicates.proofs.Spans.{false-within}
use Rattle.replies.specs.declared.Refusal.TheVariants.{IllegalState, ListTooShort}
use Rattle.registers.specs.declared.State.{State}
use Rattle.registers.specs.Legal.{is_length, legal}
use Rattle.registers.specs.State.{read_x}
use Rattle.registers.proofs.Legality.{has_legal, not_allowed, made_counts, quads}
use Rattle.registers.proofs.Registers.{all_length}
use Rattle.words.specs.Words.{size_of}
use Rattle.walk.specs.declared.Walked.{Walked}
use Rattle.walk.specs.Demand.{Demand3, needed}
use Rattle.walk.specs.Given.{GoodRegisters}
use Rattle.walk.specs.Lengths.{Typed}
use Rattle.walk.specs.Plain.{Walk, rounds, budget_for}
use Rattle.walk.specs.Walk.{plain_walk, walked, refusal_of}
use Rattle.walk.proofs.Accepted.{refused_4, refused_11, accepted_when, accepted_within}
use Rattle.walk.proofs.Answered.{answer_accepted, answer-refused, whole_accepted}
use Rattle.walk.proofs.Closed.{rounds-lt}
use Rattle.walk.proofs.Demands.{demand3}
use Rattle.fold.specs.Table.{fold_unit}
use Rattle.fold.specs.Fold.{longest, budget, title_state, title_answer, title_list, folded_first, fold_of, fold_reply}
use Rattle.fold.proofs.Folding.{all_units}
use Rattle.fold.proofs.Units.{past_latin, unit_twice}

-- ---- the state

all_same : {A : Type 0} (n i : ℕ) (a : A) → get_or (replicate n a) i a ≡ a
all_same zero i a = refl
all_same (suc n) zero a = refl
all_same (suc n) (suc i) a = all_same n i a

-- it is legal exactly if the vector length is allowed
title_legal : (vl units : ℕ) (b : Bool) → is_length vl ≡ b → legal (title_state vl units) ≡ b
title_legal vl units true e = has_legal s (record {
  sized = record { xs = refl; ps = refl; cs = all_length vl (replicate 17 all_false) refl };
  len = e;
  level = omega arith;
  bits = λ r k. ap (has_bit_from (predicate_length vl)) (all_same 17 r all_false) ∙ false-within (predicate_length vl);
  counts = made_counts s refl refl;
})
  where
    s : State
    s = title_state vl units
title_legal vl units false e = sym (not_allowed (title_state vl units) false (ap (λ (b : Bool). b && leb 1 3) (sym e)) refl)

typed : (vl units : ℕ) → units ≤ longest → Typed (title_state vl units)
typed vl units h = record { fits = fits }
  where
    fits : (i : ℕ) → read_x (title_state vl units) i < 2 ^ 64
    fits zero = omega arith
    fits (suc zero) = omega arith
    fits (suc (suc i)) = omega (arith, all_same {A = ℕ} 29 i 0)

-- X0 to X1, lanes P0, cursor P1
registers : GoodRegisters 1 0 1 0 1
registers = record {
  start = omega arith;
  limit = omega arith;
  lanes = omega arith;
  cursor = omega arith;
  element = omega arith;
  not_31 = λ e. omega arith;
  two_x = λ e. omega arith;
  two_p = λ e. omega arith;
}

-- ---- the budget

-- there are at least eight H elements, and so at most 512 rounds
eight_lanes : (vl : ℕ) → is_length vl ≡ true → 8 ≤ elements vl H
eight_lanes vl e =
    let (q, v, one, most) = quads vl e in
    let exact : elements (128 * q) H * 2 ^ 1 ≡ 16 * q = elements_exact q H most in
    subst (λ (n : ℕ). 8 ≤ elements n H) (sym v) (omega arith)

few_rounds : (d e : ℕ) → d ≤ 4096 → 8 ≤ e → rounds d e ≤ 512
few_rounds d e h k =
    elim (dec_lt 512 (rounds d e)) [
      | yes l ↦ omega (arith, rounds-lt d e 512 (omega arith) l)
      | no l ↦ omega arith
    ]

enough : (vl units : ℕ) → is_length vl ≡ true → units ≤ longest → needed (size_of 1) 0 1 (title_state vl units) ≤ budget
enough vl units e h = subst (λ (d : ℕ). budget_for d (elements vl H) ≤ budget) (sym (sub-zero units)) (omega (arith, few_rounds units (elements vl H) h (eight_lanes vl e)))

-- the budget suffices for every title at every vector length, and the longest title at the least vector length needs all of it
pub needed_most : ((vl units : ℕ) → is_length vl ≡ true → units ≤ longest → needed (size_of 1) 0 1 (title_state vl units) ≤ budget)
    × (needed (size_of 1) 0 1 (title_state 128 longest) ≡ budget)
unfolding elements predicate_length
needed_most = (enough, refl)

-- ---- the walk's answer

module _ (vl units : ℕ) (l : List ℕ) where
  abbrev s : State
  s = title_state vl units

  -- a refusal of the walk is the reply
  refused_by : (r : Reply) → is_done r ≡ false → refusal_of 1 0 1 0 1 s (length l) ≡ r → (title_answer vl units l).reply ≡ r
  refused_by r not_done e = ap (λ (w : Walked). w.reply) (answer-refused 1 0 1 0 1 budget s l (ap is_done e ∙ not_done)) ∙ e

  -- 4 for a vector length that is not allowed
  refused-length : is_length vl ≡ false → (title_answer vl units l).reply ≡ Err IllegalState
  refused-length e = refused_by (Err IllegalState) refl (refused_4 1 0 1 0 1 s (length l) (title_legal vl units false e))

  module _ (e : is_length vl ≡ true) where
    -- 11 for more units than there are places
    refused_long : length l < units → (title_answer vl units l).reply ≡ Err ListTooShort
    refused_long h = refused_by (Err ListTooShort) refl (refused_11 1 0 1 0 1 s (length l) (title_legal vl units true e) registers (omega arith) refl (rw (sub-zero units) h))

    module _ (fits : units ≤ length l) (few : units ≤ longest) where
      accepted : refusal_of 1 0 1 0 1 s (length l) ≡ Ok tt
      accepted = (accepted_when 1 0 1 0 1 s (length l)).0 (record { legal_is = title_legal vl units true e; registers = registers; present = omega arith; on = refl; room = rw (sub-zero units) fits })

      demand : Demand3 (size_of 1) 0 1 0 1 budget s l (title_list vl units l) (title_answer vl units l)
      demand =
          subst (λ (w : Walked). Demand3 (size_of 1) 0 1 0 1 budget s l (title_list vl units l) w) (sym (answer_accepted 1 0 1 0 1 budget s l accepted))
          (subst (λ (w : Walk State). Demand3 (size_of 1) 0 1 0 1 budget s l w.list (walked (plain_walk (size_of 1) 0 1 0 1 budget s l))) (sym (whole_accepted 1 0 1 0 1 budget s l accepted))
          (demand3 (size_of 1) 0 1 0 1 s l (accepted_within 1 0 1 0 1 s l (typed vl units few) accepted) budget))

      -- 0 for all others: each unit is visited, and its position listed
      all_visited : ((title_answer vl units l).reply ≡ Ok tt) × ((title_answer vl units l).visited ≡ units) × ((i : ℕ) → i < units → get_or (title_list vl units l) i 0 ≡ i)
      all_visited =
          let done = demand.enough (enough vl units e few) in
          let all : (title_answer vl units l).visited ≡ units = done.visited ∙ sub-zero units in
          (done.reply, all, λ i k. demand.visits i (omega (arith, all)) ∙ zero-add i)

-- ---- what a title becomes

-- a list has a place for each unit of a title that is not too long, and not for each of one that is
pub record Room (units : ℕ) (l : List ℕ) : Type 0 where
  pub for_each : units ≤ longest → units ≤ length l
  pub not_for_more : longest < units → length l < units

-- reply and title: what is not refused is folded by the table, unit by unit, and a refusal leaves it as it was
pub record Folds (vl : ℕ) (l t : List ℕ) : Type 0 where
  pub reply : (title_answer vl (length t) l).reply ≡ fold_reply vl (length t)
  pub title : fold_of vl l t ≡ pick (is_done (fold_reply vl (length t))) (map fold_unit t) t

-- `fold_reply` by its two tests: the length is allowed; the title is too long
abbrev told : Bool → Bool → Reply
told allowed long = pick (not allowed) (Err IllegalState) (pick long (Err ListTooShort) (Ok tt))

module _ (vl : ℕ) (l t : List ℕ) where
  abbrev by_walk : Bool → List ℕ
  by_walk done = pick done (folded_first (title_list vl (length t) l) (title_answer vl (length t) l).visited t) t

  refused : (r : Reply) → is_done r ≡ false → (title_answer vl (length t) l).reply ≡ r → fold_reply vl (length t) ≡ r → Folds vl l t
  unfolding fold_of
  refused r not_done answered is = record {
    reply = answered ∙ sym is;
    title = ap by_walk (ap is_done answered ∙ not_done) ∙ sym (ap (λ (b : Bool). pick b (map fold_unit t) t) (ap is_done is ∙ not_done));
  }

  done : is_length vl ≡ true → length t ≤ length l → length t ≤ longest → fold_reply vl (length t) ≡ Ok tt → Folds vl l t
  unfolding fold_of
  done e fits few is =
      let (answered, visited, positions) = all_visited vl (length t) l e fits few in
      record {
        reply = answered ∙ sym is;
        title =
            ap (λ (r : Reply). by_walk (is_done r)) answered ∙ ap (λ (n : ℕ). folded_first (title_list vl (length t) l) n t) visited
            ∙ all_units (title_list vl (length t) l) t positions ∙ sym (ap (λ (r : Reply). pick (is_done r) (map fold_unit t) t) is);
      }

  pub folds : Room (length t) l → Folds vl l t
  folds room = by_length (is_length vl) refl
    where
      by_length : (b : Bool) → is_length vl ≡ b → Folds vl l t
      by_length false e = refused (Err IllegalState) refl (refused-length vl (length t) l e) (ap (λ (b : Bool). told b (ltb longest (length t))) e)
      by_length true e =
          elim (dec_lt longest (length t)) [
            | yes h ↦ refused (Err ListTooShort) refl (refused_long vl (length t) l e (room.not_for_more h)) (ap₂ told e (lt-ltb longest (length t) h))
            | no h ↦
                let few : length t ≤ longest = omega arith in
                done e (room.for_each few) few (ap₂ told e (le-ltb longest (length t) few))
          ]

-- ---- the theorems

-- the list that `fold` lends
abbrev places : List ℕ
places = replicate longest 0

lent : (units : ℕ) → Room units places
lent units =
    let all : length places ≡ longest = length-replicate {A = ℕ} longest 0 in
    record { for_each = λ h. subst (λ (n : ℕ). units ≤ n) (sym all) h; not_for_more = λ h. subst (λ (n : ℕ). n < units) (sym all) h }

pub lent_folds : (vl : ℕ) (t : List ℕ) → Folds vl places t
lent_folds vl t = folds vl places t (lent (length t))

-- an accepted title comes out as the table has it, unit by unit
pub fold_table : (vl : ℕ) (t : List ℕ) → fold_reply vl (length t) ≡ Ok tt → fold_of vl places t ≡ map fold_unit t
fold_table vl t e = (lent_folds vl t).title ∙ ap (λ (r : Reply). pick (is_done r) (map fold_unit t) t) e

-- any list with a place for each unit gives the reply and the title that 4,096 places give
pub fold_any_list : (vl : ℕ) (l t : List ℕ) → length t ≤ longest → length t ≤ length l
    → ((title_answer vl (length t) l).reply ≡ (title_answer vl (length t) places).reply) × (fold_of vl l t ≡ fold_of vl places t)
fold_any_list vl l t few fits =
    let here = folds vl l t (record { for_each = λ _. fits; not_for_more = λ h. omega arith }) in
    (here.reply ∙ sym (lent_folds vl t).reply, here.title ∙ sym (lent_folds vl t).title)

-- two allowed vector lengths give the same answer and the same title
pub fold_lengths : (v w : ℕ) (t : List ℕ) → is_length v ≡ true → is_length w ≡ true → (fold_reply v (length t) ≡ fold_reply w (length t)) × (fold_of v places t ≡ fold_of w places t)
fold_lengths v w t a b =
    let same : fold_reply v (length t) ≡ fold_reply w (length t) = ap (λ (b : Bool). told b (ltb longest (length t))) (a ∙ sym b) in
    (same, (lent_folds v t).title ∙ ap (λ (r : Reply). pick (is_done r) (map fold_unit t) t) same ∙ sym (lent_folds w t).title)

map_twice : (t : List ℕ) → map fold_unit (map fold_unit t) ≡ map fold_unit t
map_twice [] = refl
map_twice (u ∷ t) = ap₂ ◌∷◌ (unit_twice u) (map_twice t)

-- a second folding changes nothing, at the same or another vector length
pub fold_twice : (v w : ℕ) (t : List ℕ) → is_length v ≡ true → fold_of w places (fold_of v places t) ≡ fold_of v places t
fold_twice v w t e =
    elim (dec_lt longest (length t)) [
      | yes h ↦ ap (fold_of w places) (stays v h) ∙ stays w h ∙ sym (stays v h)
      | no h ↦
          let folded : fold_of v places t ≡ map fold_unit t = fold_table v t (ap₂ told e (le-ltb longest (length t) (omega arith))) in
          ap (fold_of w places) folded ∙ (lent_folds w (map fold_unit t)).title ∙ either (is_done (fold_reply w (length (map fold_unit t)))) ∙ sym folded
    ]
  where
    either : (b : Bool) → pick b (map fold_unit (map fold_unit t)) (map fold_unit t) ≡ map fold_unit t
    either true = map_twice t
    either false = refl

    never_done : (b : Bool) → is_done (told b true) ≡ false
    never_done true = refl
    never_done false = refl

    stays : (vl : ℕ) → longest < length t → fold_of vl places t ≡ t
    stays vl h =
        (lent_folds vl t).title
        ∙ ap (λ (b : Bool). pick b (map fold_unit t) t)
        (ap (λ (b : Bool). is_done (told (is_length vl) b)) (lt-ltb longest (length t) h) ∙ never_done (is_length vl))

-- the units that the paper names
abbrev kept : List ℕ
kept = 0xC6 ∷ 0xD0 ∷ 0xD7 ∷ 0xD8 ∷ 0xDE ∷ 0xDF ∷ 0xE6 ∷ 0xF0 ∷ 0xF7 ∷ 0xF8 ∷ 0xFE ∷ []

-- they stay, and so do all from 100 (hexadecimal) on
pub fold_kept : (map fold_unit kept ≡ kept) × ((u : ℕ) → 256 ≤ u → fold_unit u ≡ u)
unfolding fold_unit
fold_kept = (refl, λ u h. sym (past_latin u (omega arith)))
