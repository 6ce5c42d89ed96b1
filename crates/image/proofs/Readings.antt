-- What a reading answers, and what an image has that is read without a fault. Assumes nothing.
use Rattle.replies.specs.Reply.{Reply}
use Rattle.std.specs.Prelude.{Ok, Err}
use mathlib.Core.Bool.{true, false}
use mathlib.Core.List.{List, [], ◌∷◌, ◌++◌}
use mathlib.Core.Path.{◌≡◌, refl, sym, ap, ap₂, ◌∙◌, subst}
use Prim.Native.Nat.{ℕ, zero, suc, ◌+◌, ◌*◌, ◌/◌, ◌≤◌, ◌<◌}
use native.Mathlib.Decide.{dec_lt}
use native.Mathlib.Omega.{arith}
use lib.Dec.{ltb, lit<}
use lib.ListN.{length, take, drop, get_or}
use Rattle.std.proofs.lemmas.List.{ext_get_or}
use Rattle.std.specs.Array.{IsFromFnResult, IsFromFnResultFrom}
use denote.Param.Members.{Mut, Called}
use lib.Seq.{take_all, take-suc, get_or-take, length-take-le, get_or-append_seam}
use borrow.Author.Tests.{le-ltb, ltb-false, ne_eqb}
use Rattle.octets.specs.Bytes.{value, parts, over}
use Rattle.octets.proofs.Bytes.{length-parts, parts_at}
use Rattle.predicates.specs.declared.Predicate.{Predicate}
use Rattle.replies.specs.declared.Refusal.{Refusal}
use Rattle.replies.specs.declared.Refusal.TheVariants as R
use Rattle.registers.specs.declared.State.{State}
use Rattle.registers.specs.State.{all_false, ffr, read_p}
use Rattle.image.specs.Sections.{Section, sections, section_at, shape_of, count_of, content_of, is_missing, after, section_reply, or_else, sections_reply, start_of}
use Rattle.image.specs.Reading.{vl_of, sections_of, predicates_at, ffr_at, words_at, is_old, image_reply, predicate_of, ffr_in, state_of, words_of, read_of, list_after}
use Rattle.image.proofs.SectionLaws.{Whole, whole, fault_low, fault_high, next, both_done, not-refused}

-- ---- an image without a fault: every section is whole unless it is missing, and nothing is left

start_shift : (s : Section) (ss : List Section) (i : ℕ) (rest : List ℕ) → start_of (s ∷ ss) (suc i) rest ≡ start_of ss i (after s rest)
unfolding start_of
start_shift s ss zero rest = refl
start_shift s ss (suc i) rest = ap (after (section_at ss i)) (start_shift s ss i rest)

pub wholes : (ss : List Section) (rest : List ℕ) → sections_reply ss rest ≡ Ok tt → (i : ℕ) → i < length ss → is_missing (section_at ss i) (start_of ss i rest) ≡ false
    → Whole (section_at ss i) (start_of ss i rest)
unfolding sections_reply start_of
wholes [] rest e i l m = absurd (omega arith)
wholes (s ∷ ss) rest e zero l m = whole s rest m (both_done (section_reply s rest) _ e).0
wholes (s ∷ ss) rest e (suc i) l m = rw start_shift (wholes ss (after s rest) (both_done (section_reply s rest) _ e).1 i (omega arith) (rw start_shift at m))

pub none_left : (ss : List Section) (rest : List ℕ) → sections_reply ss rest ≡ Ok tt → length (start_of ss (length ss) rest) ≤ 0
unfolding sections_reply start_of
none_left [] rest e = ltb-false 0 (length rest) (not-refused (ltb 0 (length rest)) R.TrailingBytes (Ok tt) e).0
none_left (s ∷ ss) rest e = rw start_shift (none_left ss (after s rest) (both_done (section_reply s rest) _ e).1)

pub record Sound (room : ℕ) (image : List ℕ) : Type 0 where
  pub each : (i : ℕ) → i < 6 → is_missing (section_at (sections_of image) i) (start_of (sections_of image) i image) ≡ false → Whole (section_at (sections_of image) i) (start_of (sections_of image) i image)
  pub ends : length (start_of (sections_of image) 6 image) ≤ 0
  pub few : count_of (words_at image) ≤ 4096
  pub fits : count_of (words_at image) ≤ room

pub sound : (room : ℕ) (image : List ℕ) → image_reply room image ≡ Ok tt → Sound room image
unfolding image_reply sections
sound room image e =
    let a = both_done (sections_reply (sections_of image) image) _ e in
    let b = not-refused (ltb room (count_of (words_at image))) R.BufferTooSmall (Ok tt) a.1 in
    record {
      each = wholes (sections_of image) image a.0;
      ends = none_left (sections_of image) image a.0;
      few = (wholes (sections_of image) image a.0 5 (lit< tt) refl).at_most;
      fits = ltb-false _ _ b.0;
    }

pub done_with_room : (room : ℕ) (image : List ℕ) → sections_reply (sections_of image) image ≡ Ok tt → count_of (words_at image) ≤ room → image_reply room image ≡ Ok tt
unfolding image_reply
done_with_room room image e h = next _ _ e ∙ rw (le-ltb _ _ h)

-- the first section at fault answers
pub first-at_fault : (ss : List Section) (i : ℕ) (rest : List ℕ) → i < length ss → ((j : ℕ) → j < i → section_reply (section_at ss j) (start_of ss j rest) ≡ Ok tt)
    → (r : Refusal) → Err r ≡ section_reply (section_at ss i) (start_of ss i rest) → sections_reply ss rest ≡ Err r
unfolding sections_reply start_of or_else
first-at_fault [] i rest l before r e = absurd (omega arith)
first-at_fault (s ∷ ss) zero rest l before r e = rw (← e)
first-at_fault (s ∷ ss) (suc i) rest l before r e =
    next _ _ (before 0 (omega arith))
    ∙ first-at_fault ss i (after s rest) (omega arith) (λ j k. rw start_shift at (before (suc j) (omega arith))) r (rw start_shift at e)

-- ---- the state

pub old_ffr : (image : List ℕ) → is_old image ≡ true → ffr_in image ≡ all_false
unfolding ffr_in
old_ffr image e = rw e

pub new-ffr : (image : List ℕ) → is_old image ≡ false → ffr_in image ≡ predicate_of (take (vl_of image / 64) (content_of (ffr_at image)))
unfolding ffr_in
new-ffr image e = rw e

-- what an array holds that was made by calls which change nothing
module _ {F B : Type 0} (g : Mut F (ℕ × Unit {0}) B) (f : F) (h : ℕ → B) (pure : (i : ℕ) (y : B) (q : F) → Called g f (i, tt) y q → (q ≡ f) × (y ≡ h i)) where
  filled_from : (ys : List B) (i n : ℕ) → IsFromFnResultFrom g f ys i n → (k : ℕ) (d : B) → i ≤ k → k < i + n → get_or ys k d ≡ h k
  filled_from ys i zero m k d l u = absurd (omega arith)
  filled_from ys i (suc n) m k d l u =
      let p = pure i m.1 m.0 m.3 in
      elim (dec_lt i k) [
        | yes a ↦ filled_from ys (i + 1) n (subst (λ (q : F). IsFromFnResultFrom g q ys (i + 1) n) p.0 m.4) k d (omega arith) (omega arith)
        | no a ↦ let e : k ≡ i = omega arith in rw e (m.2.1 d ∙ p.1)
      ]

  pub filled : {ys : List B} {n : ℕ} → IsFromFnResult g f ys n → (k : ℕ) (d : B) → k < n → get_or ys k d ≡ h k
  filled {ys} {n} m k d l = filled_from ys 0 n m.each k d (omega arith) (omega arith)

-- an array of parts, and one with an item more
pub each_part : {A : Type 0} (f : List ℕ → A) (k n : ℕ) (bs : List ℕ) (xs : List A) (d : A) → length xs ≡ n → ((i : ℕ) → i < n → get_or xs i d ≡ f (take k (drop (i * k) bs))) → xs ≡ parts f k n bs
each_part f k n bs xs d e each =
    ext_get_or d xs (parts f k n bs) (e ∙ sym (length-parts f k n bs)) (λ i l. let h : i < n = rw e at l in each i h ∙ sym (parts_at f k n i bs d h))

pub ffr_last : (size : ℕ) (bs : List ℕ) (ps : List Predicate) (f : Predicate) → length ps ≡ 17 → ((i : ℕ) → i < 16 → get_or ps i f ≡ predicate_of (take size (drop (i * size) bs))) → get_or ps 16 f ≡ f
    → ps ≡ parts predicate_of size 16 bs ++ (f ∷ [])
ffr_last size bs ps f e each last =
    sym (take_all 17 ps (omega arith)) ∙ take-suc ps 16 f (omega arith)
    ∙ ap₂ (λ (xs : List Predicate) (x : Predicate). xs ++ (x ∷ [])) (each_part predicate_of size 16 bs (take 16 ps) f (length-take-le 16 ps (omega arith)) (λ i l. get_or-take 16 ps i f l ∙ each i l)) last

-- ---- FFR

pub read-ffr : (image : List ℕ) → read_p (state_of image) ffr ≡ ffr_in image
unfolding state_of
read-ffr image =
    let p : List Predicate = parts predicate_of (vl_of image / 64) ffr (content_of (predicates_at image)) in
    subst (λ (n : ℕ). get_or (p ++ (ffr_in image ∷ [])) n all_false ≡ ffr_in image) (length-parts predicate_of (vl_of image / 64) ffr (content_of (predicates_at image)))
    (get_or-append_seam p (ffr_in image) [] all_false)

-- An old image is read with FFR all false.
pub read_old : (image : List ℕ) → is_old image ≡ true → read_p (state_of image) ffr ≡ all_false
read_old image e = read-ffr image ∙ old_ffr image e

-- A count at FFR's place other than 1, FFR's, and 4, that of an old image's flags, is not allowed.
pub ffr-count : (room : ℕ) (image : List ℕ) → ((j : ℕ) → j < 3 → section_reply (section_at (sections_of image) j) (start_of (sections_of image) j image) ≡ Ok tt)
    → 4 ≤ length (ffr_at image) → (count_of (ffr_at image) ≡ 1 → ⊥) → (count_of (ffr_at image) ≡ 4 → ⊥) → image_reply room image ≡ Err R.NotAllowed
unfolding image_reply sections or_else
ffr-count room image before h a b =
    rw (first-at_fault (sections_of image) 3 image (lit< tt) before R.NotAllowed fault)
  where
    rest : List ℕ
    rest = ffr_at image

    s : Section
    s = section_at (sections_of image) 3

    there : false ≡ is_missing s rest
    there = sym (ne_eqb (count_of rest) 4 b)

    fault : Err R.NotAllowed ≡ section_reply s rest
    fault =
        elim (dec_lt (count_of rest) 1) [
          | yes l ↦ fault_low s rest (shape_of s) (count_of rest) false there refl refl refl h l
          | no l ↦ fault_high s rest (shape_of s) (count_of rest) false there refl refl refl h (omega arith) (omega arith)
        ]

-- ---- the answer and the list

module _ (image list : List ℕ) (f : Reply) (e : f ≡ image_reply (length list) image) where
  module _ (h : f ≡ Ok tt) where
    found : Sound (length list) image
    found = sound (length list) image (sym e ∙ h)

    module _ (rest : List ℕ) (k : ℕ) (er : rest ≡ words_at image) (ek : k ≡ count_of rest) where
      -- the words are not too many, and have room
      pub fill_most : k ≤ 4096
      fill_most = rw (ek, er) found.few

      pub fill-room : k ≤ length list
      fill-room = rw (ek, er) found.fits

      pub read_done : (s : State) → s ≡ state_of image → Ok (record { state = s; count = k }) ≡ read_of (length list) image
      unfolding read_of
      read_done s es = rw (es, ek, er) (sym (next _ _ (sym e ∙ h)))

      pub list_done : (words content : List ℕ) → content ≡ content_of rest → words ≡ parts value 4 (length (take k list)) content → words ++ drop k list ≡ list_after image list
      unfolding list_after words_of over
      list_done words content ec ew = rw (ew, length-take-le k list fill-room, ← e, h, ec, ek, er, length-parts)
