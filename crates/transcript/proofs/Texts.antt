-- With enough room the buffer begins with the lines one after the other, and 86,026 bytes are enough. Assumes nothing.
use Rattle.replies.specs.Reply.{Reply, number_of, is_done}
use Rattle.std.specs.Prelude.{Ok, Err}
use mathlib.Core.Bool.{Bool, true, false}
use mathlib.Core.List.{List, [], ◌∷◌, ◌++◌, append_assoc, append-nil}
use mathlib.Core.Path.{◌≡◌, refl, sym, ap, ap₂, ◌∙◌}
use Prim.Native.Nat.{ℕ, suc, ◌+◌, ◌*◌, ◌≤◌, ◌<◌}
use native.Mathlib.Omega.{arith}
use lib.Dec.{lit<}
use lib.ListN.{length, take, drop, length-append, take-append-drop}
use lib.Seq.{take_at, drop_at, drop-drop, length-take-le}
use borrow.Author.Tests.{le-leb, eqb-true}
use Rattle.bits.specs.Choice.{pick}
use Rattle.predicates.specs.declared.Flags.{Flags}
use Rattle.replies.specs.declared.Refusal.TheVariants as R
use Rattle.registers.specs.declared.State.{State}
use Rattle.machine.specs.declared.Stepped.{Stepped}
use Rattle.machine.specs.Step.{step_of}
use Rattle.image.specs.Reading.{image_reply, state_of, words_of}
use Rattle.octets.proofs.Bytes.{length-parts}
use Rattle.replies.proofs.Replies.{number_done, done_number}
use Rattle.image.proofs.Readings.{sound}
use Rattle.report.specs.Lines.{word_line, end_line, image_line, after, placed}
use Rattle.report.proofs.Digits.{length_most}
use Rattle.report.proofs.Places.{word-length, text-length}
use Rattle.transcript.specs.Transcript.{lines_of, transcript_of, after_all, placed_all, text}
use Rattle.transcript.proofs.Puts.{placed-length}

-- ---- enough room

module _ (l : List ℕ) (at : ℕ) (buffer : List ℕ) (h : at + length l ≤ length buffer) where
  fits_after : after l at (length buffer) ≡ at + length l
  unfolding after
  fits_after = rw (le-leb (at + length l) (length buffer) h)

  fits-placed : placed l at buffer ≡ (take at buffer ++ l) ++ drop (at + length l) buffer
  unfolding placed
  fits-placed = rw (le-leb (at + length l) (length buffer) h) (sym (append_assoc (take at buffer) l (drop (at + length l) buffer)))

  front_length : length (take at buffer ++ l) ≡ at + length l
  front_length = length-append (take at buffer) l ∙ ap (λ (n : ℕ). n + length l) (length-take-le at buffer (omega arith))

  placed_front : take (at + length l) (placed l at buffer) ≡ take at buffer ++ l
  placed_front = ap (take (at + length l)) fits-placed ∙ take_at (take at buffer ++ l) (drop (at + length l) buffer) (at + length l) front_length

  placed_rest : (k : ℕ) → drop (at + length l + k) (placed l at buffer) ≡ drop (at + length l + k) buffer
  placed_rest k =
      sym (drop-drop k (at + length l) (placed l at buffer))
      ∙ ap (λ (z : List ℕ). drop k z) (ap (drop (at + length l)) fits-placed ∙ drop_at (take at buffer ++ l) (drop (at + length l) buffer) (at + length l) front_length)
      ∙ drop-drop k (at + length l) buffer

-- the buffer with a text from `at` on
abbrev shown : List ℕ → ℕ → List ℕ → List ℕ
shown t at buffer = take at buffer ++ (t ++ drop (at + length t) buffer)

record Whole (ls : List (List ℕ)) (at : ℕ) (buffer : List ℕ) : Type 0 where
  pub ends : after_all ls at (length buffer) ≡ at + length (text ls)
  pub bytes : placed_all ls at buffer ≡ shown (text ls) at buffer

whole-none : (at : ℕ) (buffer : List ℕ) → Whole [] at buffer
unfolding after_all placed_all text
whole-none at buffer = let e : at + 0 ≡ at = omega arith in record { ends = sym e; bytes = sym (ap (λ (n : ℕ). take at buffer ++ drop n buffer) e ∙ take-append-drop at buffer) }

whole-next : (l : List ℕ) (ls : List (List ℕ)) (at : ℕ) (buffer : List ℕ) → at + length l ≤ length buffer → Whole ls (at + length l) (placed l at buffer) → Whole (l ∷ ls) at buffer
unfolding after_all placed_all text
whole-next l ls at buffer h w =
    let k : ℕ = length (text ls) in
    let e : at + length l + k ≡ at + length (l ++ text ls) = rw (length-append l (text ls)) (omega arith) in
    record {
      ends =
          ap (λ (n : ℕ). after_all ls n (length buffer)) (fits_after l at buffer h)
          ∙ ap (after_all ls (at + length l)) (sym (placed-length l at buffer)) ∙ w.ends ∙ e;
      bytes =
          ap (λ (n : ℕ). placed_all ls n (placed l at buffer)) (fits_after l at buffer h) ∙ w.bytes
          ∙ ap₂ (λ (x y : List ℕ). x ++ (text ls ++ y)) (placed_front l at buffer h) (placed_rest l at buffer h k ∙ ap (λ (n : ℕ). drop n buffer) e)
          ∙ append_assoc (take at buffer) l (text ls ++ drop (at + length (l ++ text ls)) buffer)
          ∙ ap (λ (z : List ℕ). take at buffer ++ z) (sym (append_assoc l (text ls) (drop (at + length (l ++ text ls)) buffer)));
    }

room-first : (l : List ℕ) (ls : List (List ℕ)) (at n : ℕ) → at + length (text (l ∷ ls)) ≤ n → at + length l ≤ n
unfolding text
room-first l ls at n h = omega (arith, length-append l (text ls))

room_next : (l : List ℕ) (ls : List (List ℕ)) (at : ℕ) (buffer : List ℕ) → at + length (text (l ∷ ls)) ≤ length buffer
    → at + length l + length (text ls) ≤ length (placed l at buffer)
unfolding text
room_next l ls at buffer h = omega (arith, length-append l (text ls), placed-length l at buffer)

whole : (ls : List (List ℕ)) (at : ℕ) (buffer : List ℕ) → at + length (text ls) ≤ length buffer → Whole ls at buffer
whole [] at buffer h = whole-none at buffer
whole (l ∷ ls) at buffer h =
    whole-next l ls at buffer (room-first l ls at (length buffer) h) (whole ls (at + length l) (placed l at buffer) (room_next l ls at buffer h))

-- ---- how long a text is

reply_small : (r : Reply) → number_of r < 100
reply_small (Ok tt) = lit< tt
reply_small (Err R.ForeignWord) = lit< tt
reply_small (Err R.LevelTooLow) = lit< tt
reply_small (Err R.AccessOff) = lit< tt
reply_small (Err R.IllegalState) = lit< tt
reply_small (Err R.ImageCut) = lit< tt
reply_small (Err R.NotAllowed) = lit< tt
reply_small (Err R.TrailingBytes) = lit< tt
reply_small (Err R.BufferTooSmall) = lit< tt
reply_small (Err R.FieldPastRange) = lit< tt
reply_small (Err R.BadWalkRegisters) = lit< tt
reply_small (Err R.ListTooShort) = lit< tt
reply_small (Err R.BudgetSpent) = lit< tt
reply_small (Err R.UnsupportedForm) = lit< tt
reply_small (Err R.NotMonotonic) = lit< tt
reply_small (Err R.NotOwned) = lit< tt

end_most : (n : ℕ) → n ≤ 4096 → length (end_line n) ≤ 9
unfolding end_line
end_most n h = omega (arith, text-length (101 ∷ 110 ∷ 100 ∷ 32 ∷ []) n _ refl, length_most 3 n (omega arith))

image_most : (n : ℕ) → n < 100 → length (image_line n) ≤ 9
unfolding image_line
image_most n h = omega (arith, text-length (105 ∷ 109 ∷ 97 ∷ 103 ∷ 101 ∷ 32 ∷ []) n _ refl, length_most 1 n h)

word_most : (n w r : ℕ) (f : Flags) → n ≤ 4096 → r < 100 → length (word_line n w r f) ≤ 22
word_most n w r f h k = omega (arith, word-length n w r f _ _ refl refl, length_most 3 n (omega arith), length_most 1 r k)

done_most : (n w r : ℕ) (f : Flags) → n ≤ 4096 → r ≡ 0 → length (word_line n w r f) ≤ 21
done_most n w r f h k = omega (arith, word-length n w r f _ _ refl refl, length_most 3 n (omega arith), length_most 0 r (omega arith))

one_length : (l : List ℕ) → length (text (l ∷ [])) ≡ length l
unfolding text
one_length l = ap length (append-nil l)

most_on : (l : List ℕ) (ls : List (List ℕ)) (n : ℕ) → length l ≤ 21 → length (text ls) ≤ 21 * n + 10 → length (text (l ∷ ls)) ≤ 21 * suc n + 10
unfolding text
most_on l ls n a b = omega (arith, length-append l (text ls))

most_stop : (l : List ℕ) (e : List ℕ) (n : ℕ) → length l ≤ 22 → length e ≤ 9 → length (text (l ∷ e ∷ [])) ≤ 21 * suc n + 10
unfolding text
most_stop l e n a b = omega (arith, length-append l (e ++ []), ap length (append-nil e))

most_end : (l : List ℕ) → length l ≤ 9 → length (text (l ∷ [])) ≤ 21 * 0 + 10
most_end l h = omega (arith, one_length l)

-- a word's line and those after it
most_word : (t : Stepped) (done w : ℕ) (ws : List ℕ) → done ≤ 4096 → length (text (lines_of t.state (suc done) ws)) ≤ 21 * length ws + 10
    → length (text (word_line done w (number_of t.reply) t.state.flags ∷ pick (is_done t.reply) (lines_of t.state (suc done) ws) (end_line done ∷ [])))
    ≤ 21 * suc (length ws) + 10
most_word t done w ws h m = cases (is_done t.reply) refl
  where
    cases : (b : Bool) → is_done t.reply ≡ b
        → length (text (word_line done w (number_of t.reply) t.state.flags ∷ pick b (lines_of t.state (suc done) ws) (end_line done ∷ []))) ≤ 21 * suc (length ws) + 10
    cases true e =
        most_on (word_line done w (number_of t.reply) t.state.flags) (lines_of t.state (suc done) ws) (length ws)
        (done_most done w (number_of t.reply) t.state.flags h (eqb-true (number_of t.reply) 0 (sym (done_number t.reply) ∙ e))) m
    cases false e =
        most_stop (word_line done w (number_of t.reply) t.state.flags) (end_line done) (length ws)
        (word_most done w (number_of t.reply) t.state.flags h (reply_small t.reply)) (end_most done h)

most : (s : State) (done : ℕ) (ws : List ℕ) → done + length ws ≤ 4096 → length (text (lines_of s done ws)) ≤ 21 * length ws + 10
unfolding lines_of
most s done [] h = most_end (end_line done) (end_most done (omega arith))
most s done (w ∷ ws) h = most_word (step_of s w) done w ws (omega arith) (most (step_of s w).state (suc done) ws (omega arith))

-- ---- every image has its text in 86,026 bytes

module _ (room : ℕ) (image : List ℕ) where
  few : is_done (image_reply room image) ≡ true → length (words_of image) ≤ 4096
  unfolding words_of
  few e = rw length-parts (sound room image (number_done (image_reply room image) (eqb-true (number_of (image_reply room image)) 0 (sym (done_number (image_reply room image)) ∙ e)))).few

  pub text_most : length (text (transcript_of room image)) ≤ 86026
  unfolding transcript_of
  text_most = cases (is_done (image_reply room image)) refl
    where
      cases : (b : Bool) → is_done (image_reply room image) ≡ b
          → length (text (pick b (lines_of (state_of image) 0 (words_of image)) (image_line (number_of (image_reply room image)) ∷ []))) ≤ 86026
      cases true e =
          let f : length (words_of image) ≤ 4096 = few e in
          omega (arith, most (state_of image) 0 (words_of image) (omega arith))
      cases false e = omega (arith, one_length (image_line (number_of (image_reply room image))), image_most (number_of (image_reply room image)) (reply_small (image_reply room image)))

  pub transcribed : (out : List ℕ) → 86026 ≤ length out
      → (after_all (transcript_of room image) 0 (length out) ≡ length (text (transcript_of room image)))
      × (placed_all (transcript_of room image) 0 out ≡ text (transcript_of room image) ++ drop (length (text (transcript_of room image))) out)
  transcribed out h =
      let n : ℕ = length (text (transcript_of room image)) in
      let w = whole (transcript_of room image) 0 out (omega (arith, text_most)) in
      let e : 0 + n ≡ n = omega arith in
      (w.ends ∙ e, w.bytes ∙ ap (λ (k : ℕ). text (transcript_of room image) ++ drop k out) e)
