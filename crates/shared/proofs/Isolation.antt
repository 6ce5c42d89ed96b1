-- Isolation: what one kernel is answered and left with does not depend on the other; and so the order of the two does not matter. Assumes nothing.
use mathlib.Core.Bool.{Bool, true, false}
use mathlib.Core.List.{List, [], ◌∷◌}
use mathlib.Core.Path.{◌≡◌, refl, sym, ap, ap₂, ◌∙◌, subst}
use Rattle.bits.specs.Choice.{pick}
use Rattle.bits.proofs.Searches.{never}
use Rattle.registers.specs.Legal.{legal}
use Rattle.shared.specs.declared.Kernel.{Kernel}
use Rattle.shared.specs.declared.Kernel.TheVariants.{First, Second}
use Rattle.shared.specs.declared.Shared.{Shared}
use Rattle.shared.specs.Schedule.{Action, Turn, answer_of, after_action, after_turns, same, actions_of, answers_of, Alike}
use Rattle.shared.specs.Isolation.{other, Frame, Outcome}
use Rattle.shared.proofs.Actions.{alike_counts, frame_alike, action_kept, action_frame, action_alike}

pub alike_on : (who : Kernel) (s t u : Shared) → Alike who s t → Alike who t u → Alike who s u
alike_on who s t u f g = record {
  vl = f.vl ∙ g.vl;
  level = f.level ∙ g.level;
  access = f.access ∙ g.access;
  x = λ r h. f.x r h ∙ g.x r h;
  p = λ r h. f.p r h ∙ g.p r h;
  flags = f.flags ∙ g.flags;
}

alike_back : (who : Kernel) (s t : Shared) → Alike who s t → Alike who t s
alike_back who s t f = record {
  vl = sym f.vl;
  level = sym f.level;
  access = sym f.access;
  x = λ r h. sym (f.x r h);
  p = λ r h. sym (f.p r h);
  flags = sym f.flags;
}

pub alike_self : (who : Kernel) (s : Shared) → Alike who s s
alike_self who s = record { vl = refl; level = refl; access = refl; x = λ r h. refl; p = λ r h. refl; flags = refl }

-- ---- a schedule beside the one kernel's actions alone

unfoldable alone : Kernel → List Action → List Turn
alone who [] = []
alone who (a ∷ more) = record { kernel = who; action = a } ∷ alone who more

same_is : (w v : Kernel) → same w v ≡ true → w ≡ v
same_is First First e = refl
same_is First Second e = never e refl
same_is Second First e = never e refl
same_is Second Second e = refl

other_is : (w v : Kernel) → same w v ≡ false → v ≡ other w
other_is First First e = never refl e
other_is First Second e = refl
other_is Second First e = refl
other_is Second Second e = never refl e

same_self : (w : Kernel) → same w w ≡ true
same_self First = refl
same_self Second = refl

-- a legal state stays legal
pub turns_kept : (us : List Turn) (s : Shared) → legal s.state ≡ true → legal (after_turns s us).state ≡ true
unfolding after_turns
turns_kept [] s k = k
turns_kept (u ∷ us) s k = turns_kept us (after_action u.kernel s u.action) (action_kept u.kernel s u.action k)

-- two runs' answers and ends, alike to a kernel
pub record Course (who : Kernel) (s t : Shared) (us vs : List Turn) : Type 0 where
  pub answers : answers_of who s us ≡ answers_of who t vs
  pub after : Alike who (after_turns s us) (after_turns t vs)

-- the other's turns do not show: one turn more
module _ (who : Kernel) (u : Turn) (us : List Turn) (more : (s t : Shared) → legal s.state ≡ true → legal t.state ≡ true → Alike who s t → Course who s t us (alone who (actions_of who us))) (s t : Shared) (ks : legal s.state ≡ true) (kt : legal t.state ≡ true) (h : Alike who s t) where
  abbrev next : Shared
  next = after_action u.kernel s u.action

  kept : legal next.state ≡ true
  kept = action_kept u.kernel s u.action ks

  shown : (b : Bool) → same who u.kernel ≡ b → answers_of who s (u ∷ us) ≡ pick b (answer_of who s u.action ∷ answers_of who next us) (answers_of who next us)
  unfolding answers_of
  shown b e = ap (λ (c : Bool). pick c (answer_of who s u.action ∷ answers_of who next us) (answers_of who next us)) e

  own : same who u.kernel ≡ true → Course who s t (u ∷ us) (alone who (u.action ∷ actions_of who us))
  unfolding after_turns answers_of alone
  own e =
      let k : who ≡ u.kernel = same_is who u.kernel e in
      let (a, q) = action_alike who s t u.action ks kt h in
      let left : Shared = after_action who t u.action in
      let here : Alike who next left = subst (λ (w : Kernel). Alike who (after_action w s u.action) left) k q in
      let rest = more next left kept (action_kept who t u.action kt) here in
      let turns : List Turn = alone who (actions_of who us) in
      record {
        answers =
            shown true e ∙ ap₂ ◌∷◌ a rest.answers
            ∙ sym (ap (λ (c : Bool). pick c (answer_of who t u.action ∷ answers_of who left turns) (answers_of who left turns)) (same_self who));
        after = rest.after;
      }

  others : same who u.kernel ≡ false → Course who s t (u ∷ us) (alone who (actions_of who us))
  unfolding after_turns
  others e =
      let frame : Frame (other who) s next = subst (λ (w : Kernel). Frame w s next) (other_is who u.kernel e) (action_frame u.kernel s u.action ks) in
      let here : Alike who next t = alike_on who next s t (alike_back who s next (frame_alike who s next frame)) h in
      let rest = more next t kept kt here in
      record { answers = shown false e ∙ rest.answers; after = rest.after }

  one_more : Course who s t (u ∷ us) (alone who (actions_of who (u ∷ us)))
  unfolding actions_of
  one_more = go (same who u.kernel) refl
    where
      go : (b : Bool) → same who u.kernel ≡ b → Course who s t (u ∷ us) (alone who (pick (same who u.kernel) (u.action ∷ actions_of who us) (actions_of who us)))
      go true e = subst (λ (c : Bool). Course who s t (u ∷ us) (alone who (pick c (u.action ∷ actions_of who us) (actions_of who us)))) (sym e) (own e)
      go false e = subst (λ (c : Bool). Course who s t (u ∷ us) (alone who (pick c (u.action ∷ actions_of who us) (actions_of who us)))) (sym e) (others e)

module _ (who : Kernel) where
  by_itself : (us : List Turn) (s t : Shared) → legal s.state ≡ true → legal t.state ≡ true → Alike who s t → Course who s t us (alone who (actions_of who us))
  unfolding after_turns actions_of answers_of alone
  by_itself [] s t ks kt h = record { answers = refl; after = h }
  by_itself (u ∷ us) s t ks kt h = one_more who u us (by_itself us) s t ks kt h

  -- two runs from legal states that are alike to a kernel, with that kernel's words and walks in one order: it is answered alike, and left with what is alike
  pub isolation : (s t : Shared) (us vs : List Turn) → legal s.state ≡ true → legal t.state ≡ true → Alike who s t → actions_of who us ≡ actions_of who vs → Outcome who s t us vs
  isolation s t us vs ks kt h e =
      let left = by_itself us s t ks kt h in
      let right : Course who t t vs (alone who (actions_of who us)) = subst (λ (l : List Action). Course who t t vs (alone who l)) (sym e) (by_itself vs t t kt kt (alike_self who t)) in
      let after = alike_on who _ _ _ left.after (alike_back who _ _ right.after) in
      record {
        answers = left.answers ∙ sym right.answers;
        after = after;
        counts = alike_counts who (after_turns s us) (after_turns t vs) (turns_kept us s ks) (turns_kept vs t kt) after;
      }
