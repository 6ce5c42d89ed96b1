-- No image without a fault is longer than the largest image, and a longer input has the reply of its beginning. Assumes nothing.
use Rattle.replies.specs.Reply.{Reply}
use Rattle.std.specs.Prelude.{Ok, Err}
use mathlib.Core.Bool.{Bool, true, false, not, ◌&&◌, ◌||◌}
use mathlib.Core.List.{List, [], ◌∷◌}
use mathlib.Core.Path.{◌≡◌, refl, sym, ap, ap₂, ◌∙◌}
use Prim.Native.Nat.{ℕ, zero, suc, ◌+◌, ◌-◌, ◌*◌, ◌≤◌, ◌<◌, min}
use native.Mathlib.Nat.{mul-le-mul_right, sub-zero}
use native.Mathlib.Decide.{dec_lt}
use native.Mathlib.Omega.{arith}
use lib.Dec.{ltb, eqb}
use lib.ListN.{length, take, drop, get_or, length-take, length-drop}
use lib.Seq.{take_all, take-take, get_or-take, get_or-drop}
use borrow.Author.Tests.{lt-ltb, le-ltb, ltb-false}
use Rattle.bits.specs.Choice.{pick}
use Rattle.bits.proofs.Searches.{some_cong}
use Rattle.octets.specs.Bytes.{value}
use Rattle.replies.specs.declared.Refusal.{Refusal}
use Rattle.replies.specs.declared.Refusal.TheVariants as R
use Rattle.registers.proofs.Legality.{settings_has, quads}
use Rattle.image.specs.Sections.{Section, setting, sections, section_at, count_of, content_of, is_missing, after, has_wrong, section_reply, or_else, sections_reply, bytes_of, largest_image}
use Rattle.image.specs.Reading.{vl_of, sections_of, image_reply}
use Rattle.image.proofs.SectionLaws.{taken, after_taken, taken_most, whole, both_done, not-refused, neither}
use Rattle.image.proofs.Writings.{largest_is}

-- the most bytes that sections have
abbrev most : List Section → ℕ
most ss = bytes_of (λ s. s.highest) ss

-- ---- what a cut changes not

cut_below : (n m k : ℕ) → k ≤ m → ltb (min m n) k ≡ ltb n k
cut_below n m k h =
    elim (dec_lt n k) [
      | yes l ↦ lt-ltb (min m n) k (omega arith) ∙ sym (lt-ltb n k l)
      | no l ↦ le-ltb (min m n) k (omega arith) ∙ sym (le-ltb n k (omega arith))
    ]

cut-some : (n m : ℕ) → 0 < m → ltb 0 (min m n) ≡ ltb 0 n
cut-some n m h =
    elim (dec_lt 0 n) [
      | yes l ↦ lt-ltb 0 (min m n) (omega arith) ∙ sym (lt-ltb 0 n l)
      | no l ↦ le-ltb 0 (min m n) (omega arith) ∙ sym (le-ltb 0 n (omega arith))
    ]

drop-cut : (k m : ℕ) (l : List ℕ) → drop k (take m l) ≡ take (m - k) (drop k l)
drop-cut zero m l = rw sub-zero
drop-cut (suc k) zero l = let z : 0 - suc k ≡ 0 = omega arith in rw z
drop-cut (suc k) (suc m) [] = sym (nothing (suc m - suc k))
  where
    nothing : (n : ℕ) → ◌≡◌ {A = List ℕ} (take n []) []
    nothing zero = refl
    nothing (suc n) = refl
drop-cut (suc k) (suc m) (x ∷ l) = let z : suc m - suc k ≡ m - k = omega arith in rw z (drop-cut k m l)

byte_cut : (m : ℕ) (rest : List ℕ) (i : ℕ) → 4 + i < m → get_or (content_of (take m rest)) i 0 ≡ get_or (content_of rest) i 0
byte_cut m rest i l = get_or-drop 4 (take m rest) i 0 ∙ get_or-take m rest (4 + i) 0 l ∙ sym (get_or-drop 4 rest i 0)

count_cut : (m : ℕ) (rest : List ℕ) → 4 ≤ m → count_of (take m rest) ≡ count_of rest
count_cut m rest h = ap value (take-take 4 m rest h)

-- ---- one section

unless : (t : Bool) (f a b : Reply) → (t ≡ false → a ≡ b) → pick t f a ≡ pick t f b
unless true f a b h = refl
unless false f a b h = h refl

cut-section : (s : Section) (rest : List ℕ) (m : ℕ) → 4 + s.highest * s.item ≤ m → section_reply s (take m rest) ≡ section_reply s rest
unfolding section_reply
cut-section s rest m h =
    let n : ℕ = count_of rest in
    let wrong : Bool = ltb n s.lowest || ltb s.highest n in
    let content : wrong ≡ false → pick (ltb (length (take m rest)) (4 + n * s.item)) (Err R.ImageCut) (pick (has_wrong s (content_of (take m rest)) (n * s.item)) (Err R.NotAllowed) (Ok tt))
    ≡ pick (ltb (length rest) (4 + n * s.item)) (Err R.ImageCut) (pick (has_wrong s (content_of rest) (n * s.item)) (Err R.NotAllowed) (Ok tt)) =
    λ e.
    let l : n * s.item ≤ s.highest * s.item = mul-le-mul_right s.item (ltb-false s.highest n (neither (ltb n s.lowest) (ltb s.highest n) e).1) in
    ap₂ (λ (a b : Bool). pick a (Err R.ImageCut) (pick b (Err R.NotAllowed) (Ok tt))) (ap (λ (k : ℕ). ltb k (4 + n * s.item)) (length-take m rest) ∙ cut_below (length rest) m (4 + n * s.item) (omega arith))
    (some_cong (λ i. not (s.allowed i (get_or (content_of (take m rest)) i 0))) (λ i. not (s.allowed i (get_or (content_of rest) i 0))) (n * s.item) (λ i k. ap (λ (b : ℕ). not (s.allowed i b)) (byte_cut m rest i (omega arith)))) in
    rw (count_cut m rest (omega arith))
    (ap₂ (λ (t : Bool) (f : Reply). pick t (Err R.ImageCut) f) (ap (λ (k : ℕ). ltb k 4) (length-take m rest) ∙ cut_below (length rest) m 4 (omega arith))
    (unless (is_missing s rest) (Ok tt) _ _ (λ _. unless wrong (Err R.NotAllowed) _ _ content)))

-- what follows a section that was cut is what follows it, cut
after-cut : (s : Section) (rest : List ℕ) (m : ℕ) → 4 ≤ m → after s (take m rest) ≡ take (m - taken s rest) (after s rest)
after-cut s rest m h =
    let e : taken s (take m rest) ≡ taken s rest = ap (λ (n : ℕ). pick (s.optional && eqb n 4) 0 (4 + n * s.item)) (count_cut m rest h) in
    after_taken s (take m rest) ∙ ap (λ (n : ℕ). drop n (take m rest)) e ∙ drop-cut (taken s rest) m rest ∙ ap (take (m - taken s rest)) (sym (after_taken s rest))

-- ---- all sections

if_done : (f a b : Reply) → (f ≡ Ok tt → a ≡ b) → or_else f a ≡ or_else f b
unfolding or_else
if_done (Ok tt) a b h = h refl
if_done (Err r) a b h = refl

-- given that the sections after it may be cut
cut-first : (s : Section) (ss : List Section) (rest : List ℕ) (m : ℕ) → 4 + s.highest * s.item ≤ m
    → ((past : List ℕ) → section_reply s rest ≡ Ok tt → sections_reply ss (take (m - taken s rest) past) ≡ sections_reply ss past)
    → sections_reply (s ∷ ss) (take m rest) ≡ sections_reply (s ∷ ss) rest
unfolding sections_reply
cut-first s ss rest m h later =
    ap₂ (λ (f : Reply) (past : List ℕ). or_else f (sections_reply ss past)) (cut-section s rest m h) (after-cut s rest m (omega arith))
    ∙ if_done (section_reply s rest) _ _ (λ e. later (after s rest) e)

cut-sections : (ss : List Section) (rest : List ℕ) (m : ℕ) → most ss < m → sections_reply ss (take m rest) ≡ sections_reply ss rest
unfolding sections_reply bytes_of
cut-sections [] rest m h = ap (λ (t : Bool). pick t (Err R.TrailingBytes) (Ok tt)) (ap (ltb 0) (length-take m rest) ∙ cut-some (length rest) m (omega arith))
cut-sections (s ∷ ss) rest m h =
    cut-first s ss rest m (omega arith) (λ past e. cut-sections ss past (m - taken s rest) (omega (arith, taken_most s rest e)))

no_longer : (ss : List Section) (rest : List ℕ) → sections_reply ss rest ≡ Ok tt → length rest ≤ most ss
unfolding sections_reply bytes_of
no_longer [] rest e = ltb-false 0 (length rest) (not-refused (ltb 0 (length rest)) R.TrailingBytes (Ok tt) e).0
no_longer (s ∷ ss) rest e =
    let a = both_done (section_reply s rest) (sections_reply ss (after s rest)) e in
    omega (arith, no_longer ss (after s rest) a.1, taken_most s rest a.0, ap length (after_taken s rest) ∙ length-drop (taken s rest) rest)

-- ---- an image

-- settings without a fault name a vector length
named : (image : List ℕ) → section_reply (section_at (sections_of image) 0) image ≡ Ok tt → vl_of image ≤ 2048
unfolding sections setting
named image e =
    let w = whole (section_at (sections_of image) 0) image refl e in
    let (q, v, _, l) = quads (vl_of image) (settings_has (vl_of image) 0 (w.right 0 (omega (arith, w.at_least)))).0 in
    omega arith

sections-cut : (n : ℕ) → largest_image < n → (image : List ℕ) → sections_reply (sections_of image) (take n image) ≡ sections_reply (sections_of image) image
unfolding sections bytes_of
sections-cut n h image =
    let l : 17207 < n = rw largest_is at h in
    cut-first (section_at (sections_of image) 0) (drop 1 (sections_of image)) image n (omega arith)
    (λ past e. cut-sections (drop 1 (sections_of image)) past (n - taken (section_at (sections_of image) 0) image) (omega (arith, named image e, taken_most (section_at (sections_of image) 0) image e)))

-- An image without a fault has at most as many bytes as the largest.
pub longest-read : (image : List ℕ) → sections_reply (sections_of image) image ≡ Ok tt → length image ≤ largest_image
unfolding sections sections_reply bytes_of
longest-read image e = omega (arith, largest_is, no_longer (sections_of image) image e, named image (both_done (section_reply (section_at (sections_of image) 0) image) _ e).0)

refused : (room : ℕ) (image : List ℕ) (r : Refusal) → sections_reply (sections_of image) image ≡ Err r → image_reply room image ≡ Err r
unfolding image_reply or_else
refused room image r e = rw e

-- An input that is longer than every image has the reply of its beginning, as long as that is longer than every image too ..
pub reply_of_front : (n : ℕ) → largest_image < n → (room : ℕ) (image : List ℕ) → image_reply room (take n image) ≡ image_reply room image
reply_of_front n h room image =
    cases (sections_reply (sections_of image) image) refl
  where
    same-vl : vl_of (take n image) ≡ vl_of image
    same-vl = ap (λ (b : ℕ). 128 * b) (byte_cut n image 0 (omega (arith, largest_is)))

    same : sections_reply (sections_of (take n image)) (take n image) ≡ sections_reply (sections_of image) image
    same = ap (λ (v : ℕ). sections_reply (sections v) (take n image)) same-vl ∙ sections-cut n h image

    cases : (f : Reply) → sections_reply (sections_of image) image ≡ f → image_reply room (take n image) ≡ image_reply room image
    cases (Ok tt) e = ap (image_reply room) (take_all n image (omega (arith, longest-read image e)))
    cases (Err r) e = refused room (take n image) r (same ∙ e) ∙ sym (refused room image r e)

-- .. which one byte more than the largest image makes it.
pub reply_of_beginning : (room : ℕ) (image : List ℕ) → image_reply room (take (suc largest_image) image) ≡ image_reply room image
reply_of_beginning = reply_of_front (suc largest_image) (omega arith)
