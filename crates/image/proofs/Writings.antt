-- What a writing answers, and how long an image is. Assumes nothing.
use Rattle.replies.specs.Reply.{Reply}
use Rattle.std.specs.Prelude.{Ok, Err}
use mathlib.Core.Bool.{Bool, true, false, not}
use mathlib.Core.List.{List, [], ◌∷◌, ◌++◌}
use mathlib.Core.Path.{◌≡◌, refl, sym, ap, ◌∙◌}
use Prim.Native.Nat.{ℕ, suc, ◌+◌, ◌-◌, ◌*◌, ◌/◌, ◌≤◌, ◌<◌}
use native.Mathlib.Numerals.{add-one}
use native.Mathlib.Omega.{arith}
use lib.ListN.{length, take, drop, get_or, length-append, drop_of_length-le}
use lib.Seq.{sets, length-take-le, drop-cons}
use borrow.Author.Tests.{lt-ltb, le-ltb}
use mir.Val.{bool_byte}
use Rattle.bits.specs.Choice.{pick, digit}
use Rattle.bits.proofs.Searches.{never}
use Rattle.octets.specs.Bytes.{le, joined}
use Rattle.octets.proofs.Bytes.{length-le, length-joined, sets_append, sets_over}
use Rattle.predicates.specs.declared.Flags.{Flags}
use Rattle.replies.specs.declared.Refusal.{Refusal}
use Rattle.replies.specs.declared.Refusal.TheVariants as R
use Rattle.registers.specs.declared.State.{State}
use Rattle.registers.specs.Legal.{legal, illegal}
use Rattle.registers.specs.State.{all_false, ffr, read_p}
use Rattle.registers.proofs.Legality.{legal_has, quads}
use Rattle.registers.proofs.Registers.{Sized}
use Rattle.image.specs.declared.sections.Shape.{Shape}
use Rattle.image.specs.Sections.{sections, section_at, shape_of, bytes_of, image_length, largest_image, or_else}
use Rattle.image.specs.Image.{section, setting_items, predicate_bytes, flag_items, image_of}
use Rattle.image.specs.Writing.{write_reply, written_of, buffer_after}
use Rattle.image.proofs.PredicateBytes.{length_bytes}
use Rattle.image.proofs.SectionLaws.{here, past}

-- ---- the length, section by section

-- how many bytes the sections from i on have, without words
abbrev pub left : ℕ → ℕ → ℕ
left vl i = bytes_of (λ s. s.lowest) (drop i (sections vl))

pub length_start : (vl words : ℕ) → 4 * words + left vl 0 ≡ image_length vl words
unfolding image_length
length_start vl words = omega arith

pub length_left : (vl i k : ℕ) (shape : Shape) → i < 6 → k ≡ i → shape ≡ shape_of (section_at (sections vl) k) → 4 + shape.lowest * shape.item + left vl (i + 1) ≡ left vl i
unfolding bytes_of
length_left vl i k shape l ek es = rw (es, ek, here vl i l, add-one)

pub length_end : (vl words i n : ℕ) → n + left vl i ≡ image_length vl words → 6 ≤ i → n ≡ image_length vl words
unfolding bytes_of
length_end vl words i n e h = let z : left vl i ≡ 0 = ap (bytes_of (λ s. s.lowest)) (past vl i h) in omega (arith, e)

pub length-most : (vl words : ℕ) → vl ≤ 2048 → words ≤ 4096 → image_length vl words ≤ 17207
unfolding image_length sections bytes_of
length-most vl words h l = omega arith

-- The largest image has 17,207 bytes.
pub largest_is : largest_image ≡ 17207
unfolding image_length sections bytes_of
largest_is = refl

-- ---- the sections as they are written

pub section_start : {A : Type 0} (g : A → List ℕ) (l m : List ℕ) (at n : ℕ) (items : List A) → m ≡ sets l at (le 4 n) → n ≡ length items
    → sets m (at + 4) (joined g items) ≡ sets l at (section g items)
unfolding section
section_start g l m at n items e h = rw (e, h, sets_append l at (le 4 (length items)) (joined g items), length-le 4 (length items))

pub section-length : {A : Type 0} (g : A → List ℕ) (k : ℕ) → ((x : A) → length (g x) ≡ k) → (items : List A) → length (section g items) ≡ 4 + length items * k
unfolding section
section-length g k len items = simp (length-append, length-le, length-joined g k len items)

-- a turn of the loop that writes them: what is left to write
pub item_turn : {A : Type 0} (g : A → List ℕ) (l m : List ℕ) (next k i : ℕ) (xs : List A) (x : A) → i < length xs → x ≡ get_or xs i x → m ≡ sets l next (g x) → length (g x) ≡ k
    → sets m (next + k) (joined g (drop (i + 1) xs)) ≡ sets l next (joined g (drop i xs))
unfolding joined
item_turn g l m next k i xs x h ex em ek =
    let d : drop i xs ≡ x ∷ drop (suc i) xs = drop-cons xs i x h ∙ ap (λ y. y ∷ drop (suc i) xs) (sym ex) in
    rw (em, add-one, d, ← ek) (sym (sets_append l next (g x) (joined g (drop (suc i) xs))))

pub item_end : {A : Type 0} (g : A → List ℕ) (l : List ℕ) (next i : ℕ) (xs : List A) → length xs ≤ i → sets l next (joined g (drop i xs)) ≡ l
unfolding joined
item_end g l next i xs h = rw (drop_of_length-le xs h)

same_digit : (b : Bool) → bool_byte b ≡ digit b
same_digit true = refl
same_digit false = refl

pub three_items : (s : State) (v t : ℕ) → v ≡ s.level → t ≡ bool_byte s.access → s.vl / 128 ∷ v ∷ t ∷ [] ≡ setting_items s
three_items s v t ev e = rw (ev, e, same_digit)

pub four_items : (f : Flags) (a b c d : ℕ) → a ≡ bool_byte f.n → b ≡ bool_byte f.z → c ≡ bool_byte f.c → d ≡ bool_byte f.v → a ∷ b ∷ c ∷ d ∷ [] ≡ flag_items f
four_items f a b c d ea eb ec ed = rw (ea, eb, ec, ed, same_digit f.n, same_digit f.z, same_digit f.c, same_digit f.v)

pub legal-vl : (s : State) → legal s ≡ true → s.vl ≤ 2048
legal-vl s h = let (q, e, _, l) = quads s.vl (legal_has s h).len in omega arith

-- what is written past a section stands past it
pub past_section : {A : Type 0} (g : A → List ℕ) (k : ℕ) → ((x : A) → length (g x) ≡ k) → (l m : List ℕ) (at next : ℕ) (items : List A) (rest : List ℕ)
    → m ≡ sets l at (section g items) → next ≡ at + (4 + length items * k) → sets m next rest ≡ sets l at (section g items ++ rest)
past_section g k len l m at next items rest e n = rw (e, n, ← section-length g k len items) (sym (sets_append l at (section g items) rest))

module _ (s : State) (ok : Sized s) (ws : List ℕ) where
  abbrev size : ℕ
  size = s.vl / 64

  pub length-settings : length (section (le 1) (setting_items s)) ≡ 4 + 3 * 1
  length-settings = section-length (le 1) 1 (length-le 1) (setting_items s)

  pub length_x : length (section (le 8) s.x) ≡ 4 + 31 * 8
  length_x = section-length (le 8) 8 (length-le 8) s.x ∙ rw ok.xs

  pub length_p : length (section (predicate_bytes size) (take ffr s.p)) ≡ 4 + 16 * size
  length_p = section-length (predicate_bytes size) size (length_bytes size) (take ffr s.p) ∙ rw (length-take-le ffr s.p (omega (arith, ok.ps)))

  pub length-ffr : length (section (predicate_bytes size) (read_p s ffr ∷ [])) ≡ 4 + 1 * size
  length-ffr = section-length (predicate_bytes size) size (length_bytes size) (read_p s ffr ∷ [])

  pub length_flags : length (section (le 1) (flag_items s.flags)) ≡ 4 + 4 * 1
  length_flags = section-length (le 1) 1 (length-le 1) (flag_items s.flags)

  pub length_words : length (section (le 4) ws) ≡ 4 + length ws * 4
  length_words = section-length (le 4) 4 (length-le 4) ws

  -- section by section
  pub image_bytes : length (image_of s ws) ≡ (4 + 3 * 1) + ((4 + 31 * 8) + ((4 + 16 * size) + ((4 + 1 * size) + ((4 + 4 * 1) + (4 + length ws * 4)))))
  unfolding image_of
  image_bytes = simp (length-append, length-settings, length_x, length_p, length-ffr, length_flags, length_words) (omega arith)

  -- the image is as long as its sections say
  pub image_length_lem : length (image_of s ws) ≡ image_length s.vl (length ws)
  unfolding image_length sections bytes_of
  image_length_lem = image_bytes ∙ omega arith

  -- P and FFR, as the code cuts them out
  pub low_count : length (take 16 s.p) ≡ 16
  low_count = length-take-le 16 s.p (omega (arith, ok.ps))

  pub last : take (length s.p - 16) (drop 16 s.p) ≡ read_p s ffr ∷ []
  last = rw ok.ps (ap (take 1) (drop-cons s.p ffr all_false (omega (arith, ok.ps))))

  -- the sections one after the other are the image
  pub sections_are : (settings flags : List ℕ) → settings ≡ setting_items s → flags ≡ flag_items s.flags
      → section (le 1) settings ++ (section (le 8) s.x ++ (section (predicate_bytes size) (take 16 s.p) ++ (section (predicate_bytes size) (take (length s.p - 16) (drop 16 s.p)) ++ (section (le 1) flags ++ section (le 4) ws))))
      ≡ image_of s ws
  unfolding image_of
  sections_are settings flags es ef = rw (es, ef, last)

-- ---- the replies, in their order

skipped : (b : Bool) (x y : Reply) → not b ≡ true → pick b x y ≡ y
skipped true x y h = never h refl
skipped false x y h = refl

pub lawful : (s : State) (t : Bool) → t ≡ legal s → not t ≡ false → legal s ≡ true
lawful s true e h = sym e
lawful s false e h = never refl h

module _ (s : State) (ws : List ℕ) (room : ℕ) where
  pub reply_small : legal s ≡ true → length ws ≤ 4096 → room < length (image_of s ws) → Err R.BufferTooSmall ≡ write_reply s ws room
  unfolding write_reply
  reply_small h l r = sym (skipped (illegal s) (Err R.IllegalState) _ h ∙ rw (le-ltb _ _ l, lt-ltb _ _ r))

  pub reply_done : legal s ≡ true → length ws ≤ 4096 → length (image_of s ws) ≤ room → Ok tt ≡ write_reply s ws room
  unfolding write_reply
  reply_done h l r = sym (skipped (illegal s) (Err R.IllegalState) _ h ∙ rw (le-ltb _ _ l, le-ltb _ _ r))

-- ---- the answer and the buffer

module _ (s : State) (ws buffer : List ℕ) where
  pub answer-refused : (r : Refusal) → Err r ≡ write_reply s ws (length buffer) → (Err r ≡ written_of s ws (length buffer)) × (buffer ≡ buffer_after s ws buffer)
  unfolding written_of buffer_after or_else
  answer-refused r e = (rw (← e), rw (← e))

  pub answer_done : (after : List ℕ) (n : ℕ) → legal s ≡ true → length ws ≤ 4096 → n ≤ length buffer → n ≡ length (image_of s ws) → after ≡ sets buffer 0 (image_of s ws)
      → (Ok n ≡ written_of s ws (length buffer)) × (after ≡ buffer_after s ws buffer)
  unfolding written_of buffer_after or_else
  answer_done after n h few r en ea =
      let e : Ok tt ≡ write_reply s ws (length buffer) = reply_done s ws (length buffer) h few (omega arith) in
      (rw (← e, en), rw (← e, ea) (sets_over buffer (image_of s ws) (omega arith)))
