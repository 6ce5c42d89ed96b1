-- The lines of words, word by word. Assumes nothing.
use Rattle.replies.specs.Reply.{Reply, number_of, is_done}
use mathlib.Core.Bool.{Bool, true, false, not}
use mathlib.Core.List.{List, [], ◌∷◌}
use mathlib.Core.Path.{◌≡◌, sym, ap, ap₂, ◌∙◌, subst}
use Prim.Native.Nat.{ℕ, suc, ◌+◌, ◌≤◌, ◌<◌}
use native.Mathlib.Numerals.{add-one}
use lib.ListN.{length, get_or, drop, drop_of_length-le}
use lib.Seq.{drop-cons}
use borrow.Author.Tests.{not-true, not-false}
use Rattle.bits.specs.Choice.{pick}
use Rattle.predicates.specs.declared.Flags.{Flags}
use Rattle.registers.specs.declared.State.{State}
use Rattle.registers.specs.declared.parts.Settings.{Settings}
use Rattle.registers.specs.Parts.{predicates_of, counts_from, state_at, settings_of}
use Rattle.registers.proofs.PartLaws.{parts_are}
use Rattle.machine.specs.declared.Stepped.{Stepped}
use Rattle.machine.specs.Step.{answered, step_of}
use Rattle.machine.proofs.Steps.{pick_yes, pick_no}
use Rattle.report.specs.Lines.{word_line, end_line, after, placed}
use Rattle.transcript.specs.Transcript.{lines_of, after_all, placed_all}
use Rattle.transcript.proofs.Puts.{Same, line_put, last_put}

abbrev line_of : ℕ → ℕ → Stepped → List ℕ
line_of done w t = word_line done w (number_of t.reply) t.state.flags

-- the lines after a word's own
abbrev rest_of : ℕ → List ℕ → Stepped → List (List ℕ)
rest_of done ws t = pick (is_done t.reply) (lines_of t.state (suc done) ws) (end_line done ∷ [])

module _ (ws : List ℕ) (s : State) (done : ℕ) where
  pub lines_end : length ws ≤ done → lines_of s done (drop done ws) ≡ end_line done ∷ []
  unfolding lines_of
  lines_end h = ap (lines_of s done) (drop_of_length-le ws h)

  pub lines_next : (t : Stepped) → done < length ws → t ≡ step_of s (get_or ws done 0)
      → lines_of s done (drop done ws) ≡ line_of done (get_or ws done 0) t ∷ rest_of done (drop (suc done) ws) t
  unfolding lines_of
  lines_next t h et =
      ap (lines_of s done) (drop-cons ws done 0 h)
      ∙ ap (λ (x : Stepped). line_of done (get_or ws done 0) x ∷ rest_of done (drop (suc done) ws) x) (sym et)

-- ---- a turn of the loop: the lines that are left, put from here on, give what all the lines give

module _ (ws : List ℕ) (s : State) (done at : ℕ) (out : List ℕ) (all : List (List ℕ)) (out₀ : List ℕ) (here : Same (lines_of s done (drop done ws)) at out all 0 out₀) where
  -- after the last word
  pub ended : (end : ℕ) (last : List ℕ) → length ws ≤ done → end ≡ after (end_line done) at (length out) → last ≡ placed (end_line done) at out
      → (end ≡ after_all all 0 (length out₀)) × (last ≡ placed_all all 0 out₀)
  ended end last h en el =
      last_put all 0 out₀ (end_line done) at out end last en el (subst (λ (x : List (List ℕ)). Same x at out all 0 out₀) (lines_end ws s done h) here)

  module _ (reply : Reply) (t : State) (b : Bool) (below : done < length ws) (et : answered reply t ≡ step_of s (get_or ws done 0)) (told : b ≡ is_done reply)
      (n : ℕ) (f : Flags) (next : ℕ) (result : List ℕ) (enumber : n ≡ number_of reply) (eflags : f ≡ t.flags)
      (en : next ≡ after (word_line done (get_or ws done 0) n f) at (length out)) (er : result ≡ placed (word_line done (get_or ws done 0) n f) at out) where
    line_is : word_line done (get_or ws done 0) n f ≡ line_of done (get_or ws done 0) (answered reply t)
    line_is = ap₂ (word_line done (get_or ws done 0)) enumber eflags

    put : Same (pick b (lines_of t (suc done) (drop (suc done) ws)) (end_line done ∷ [])) next result all 0 out₀
    put = subst (λ (c : Bool). Same (pick c (lines_of t (suc done) (drop (suc done) ws)) (end_line done ∷ [])) next result all 0 out₀) (sym told)
        (line_put all 0 out₀ (line_of done (get_or ws done 0) (answered reply t)) at out next result
        (en ∙ ap (λ (l : List ℕ). after l at (length out)) line_is) (er ∙ ap (λ (l : List ℕ). placed l at out) line_is) _
        (subst (λ (x : List (List ℕ)). Same x at out all 0 out₀) (lines_next ws s done (answered reply t) below et) here))

    -- the word was executed
    pub turned : not b ≡ false → Same (lines_of t (done + 1) (drop (done + 1) ws)) next result all 0 out₀
    turned h = rw (add-one done) (subst (λ (x : List (List ℕ)). Same x next result all 0 out₀) (pick_yes b _ _ (not-false b h)) put)

    -- the word was refused
    pub stopped : (end : ℕ) (last : List ℕ) → not b ≡ true → end ≡ after (end_line done) next (length result) → last ≡ placed (end_line done) next result
        → (end ≡ after_all all 0 (length out₀)) × (last ≡ placed_all all 0 out₀)
    stopped end last h e l = last_put all 0 out₀ (end_line done) next result end last e l (subst (λ (x : List (List ℕ)). Same x next result all 0 out₀) (pick_no b _ _ (not-true b h)) put)

-- the lines from a state's parts are those of the state
pub from_parts : (s : State) (u : Settings) (ws : List ℕ) (f : List Bool) (p c : List (List ℕ)) (out last : List ℕ) (end : ℕ) → u ≡ settings_of s → f ≡ s.flags.n ∷ s.flags.z ∷ s.flags.c ∷ s.flags.v ∷ []
    → predicates_of p ≡ s.p → counts_from c ≡ s.counts
    → (end ≡ after_all (lines_of (state_at u f s.x p c) 0 ws) 0 (length out)) × (last ≡ placed_all (lines_of (state_at u f s.x p c) 0 ws) 0 out)
    → (end ≡ after_all (lines_of s 0 ws) 0 (length out)) × (last ≡ placed_all (lines_of s 0 ws) 0 out)
from_parts s u ws f p c out last end hu hf hp hc h =
    subst (λ (t : State). (end ≡ after_all (lines_of t 0 ws) 0 (length out)) × (last ≡ placed_all (lines_of t 0 ws) 0 out)) (parts_are s u f p c hu hf hp hc) h
