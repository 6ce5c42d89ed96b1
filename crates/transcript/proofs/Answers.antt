-- The lines of an image, from what its reading answered. Assumes nothing.
use Rattle.replies.specs.Reply.{Reply, refusal_number, number_of, is_done}
use Rattle.std.specs.Prelude.{Result, Ok, Err}
use Rattle.replies.specs.declared.Refusal.{Refusal}
use Rattle.image.specs.Sections.{or_else}
use mathlib.Core.List.{List, [], ◌∷◌}
use mathlib.Core.Path.{◌≡◌, refl, sym, ap, ap₂, ◌∙◌, subst}
use Prim.Native.Nat.{ℕ, ◌≤◌}
use lib.ListN.{length, take, drop, length-append}
use lib.Seq.{take_at}
use native.Mathlib.Omega.{arith}
use Rattle.bits.specs.Choice.{pick}
use Rattle.registers.specs.declared.State.{State}
use Rattle.image.specs.declared.Reading.{Reading}
use Rattle.octets.specs.Bytes.{value, over, AreBytes}
use Rattle.image.specs.Reading.{image_reply, state_of, words_of, count_of, content_of, words_at, read_of, list_after}
use Rattle.octets.proofs.Bytes.{length-parts}
use Rattle.image.proofs.RoundTrips.{read_few}
use Rattle.report.specs.Lines.{image_line, after, placed}
use Rattle.transcript.specs.Transcript.{lines_of, transcript_of, after_all, placed_all}
use Rattle.transcript.proofs.Puts.{last_put, same_start}

-- what the code needs of a reading without a fault
pub record Fine (image list : List ℕ) (r : Reading) (filled : List ℕ) : Type 0 where
  pub room : r.count ≤ length filled
  pub few : length (take r.count filled) ≤ 4096
  pub stepped : (out : List ℕ) (end : ℕ) (last : List ℕ) → end ≡ after_all (lines_of r.state 0 (take r.count filled)) 0 (length out)
      → last ≡ placed_all (lines_of r.state 0 (take r.count filled)) 0 out
      → (end ≡ after_all (transcript_of (length list) image) 0 (length out)) × (last ≡ placed_all (transcript_of (length list) image) 0 out)

-- what a reading that ends with a refusal, or without one, tells of the reply
refused_by : (q : Reply) (x : Reading) (e : Refusal) → Err e ≡ or_else q (Ok x) → q ≡ Err e
unfolding or_else
refused_by (Ok tt) x e h = let z : ◌≡◌ {A = ℕ} 0 1 = cc in absurd (omega arith)
refused_by (Err d) x e h = let g : d ≡ e = cc in ap Err g

read_by : (q : Reply) (x y : Reading) → Ok y ≡ or_else q (Ok x) → (q ≡ Ok tt) × (y ≡ x)
unfolding or_else
read_by (Ok tt) x y h = (refl, cc)
read_by (Err d) x y h = let z : ◌≡◌ {A = ℕ} 0 1 = cc in absurd (omega arith)

module _ (image list : List ℕ) (r : Result Reading Refusal) (er : r ≡ read_of (length list) image) where
  abbrev reply : Reply
  reply = image_reply (length list) image

  abbrev held : Reading
  held = record { state = state_of image; count = count_of (words_at image) }

  told : r ≡ or_else reply (Ok held)
  unfolding read_of
  told = er

  -- a refused image
  only : (e : Refusal) (m : ℕ) → r ≡ Err e → m ≡ refusal_number e → transcript_of (length list) image ≡ image_line m ∷ []
  unfolding transcript_of
  only e m h em = rw (refused_by reply held e (sym h ∙ told), em) refl

  pub refused : (out : List ℕ) (e : Refusal) (m : ℕ) (end : ℕ) (last : List ℕ) → r ≡ Err e → m ≡ refusal_number e
      → end ≡ after (image_line m) 0 (length out) → last ≡ placed (image_line m) 0 out
      → (end ≡ after_all (transcript_of (length list) image) 0 (length out)) × (last ≡ placed_all (transcript_of (length list) image) 0 out)
  refused out e m end last h em ee el =
      subst (λ (x : List (List ℕ)). (end ≡ after_all x 0 (length out)) × (last ≡ placed_all x 0 out)) (sym (only e m h em))
      (last_put _ 0 out (image_line m) 0 out end last ee el (same_start (image_line m ∷ []) 0 out))

  -- an image without a fault
  module _ (y : Reading) (h : r ≡ Ok y) (bytes : AreBytes image) (filled : List ℕ) (ef : filled ≡ list_after image list) where
    none : reply ≡ Ok tt
    none = (read_by reply held y (sym h ∙ told)).0

    read_is : y ≡ held
    read_is = (read_by reply held y (sym h ∙ told)).1

    count_is : y.count ≡ length (words_of image)
    unfolding words_of
    count_is = ap (λ (x : Reading). x.count) read_is ∙ sym (length-parts value 4 (count_of (words_at image)) (content_of (words_at image)))

    list_is : filled ≡ over (words_of image) list
    unfolding list_after
    list_is = ef ∙ ap (λ (q : Reply). pick (is_done q) (over (words_of image) list) list) none

    words_are : take y.count filled ≡ words_of image
    unfolding over
    words_are = ap (take y.count) list_is ∙ take_at (words_of image) (drop (length (words_of image)) list) y.count (sym count_is)

    has_room : y.count ≤ length filled
    unfolding over
    has_room = rw (list_is, count_is, length-append) (omega arith)

    lines_are : lines_of y.state 0 (take y.count filled) ≡ transcript_of (length list) image
    unfolding transcript_of
    lines_are =
        ap₂ (λ (s : State) (ws : List ℕ). lines_of s 0 ws) (ap (λ (x : Reading). x.state) read_is) words_are
        ∙ sym (ap (λ (q : Reply). pick (is_done q) (lines_of (state_of image) 0 (words_of image)) (image_line (number_of q) ∷ [])) none)

    pub whole : Fine image list y filled
    whole =
        record {
          room = has_room;
          few = rw words_are (read_few image (length list) bytes none);
          stepped = λ out end last ee el. (ee ∙ ap (λ (x : List (List ℕ)). after_all x 0 (length out)) lines_are, el ∙ ap (λ (x : List (List ℕ)). placed_all x 0 out) lines_are);
        }
