-- Reading what was written gives that state and those words; writing what was read gives the same bytes, and of an old image the new one; a state that was read is legal. Assumes nothing.
use Rattle.std.specs.Prelude.{Ok}
use mathlib.Core.Bool.{Bool, true, false, ◌&&◌}
use mathlib.Core.List.{List, [], ◌∷◌, ◌++◌, append_assoc, append-nil}
use mathlib.Core.Path.{◌≡◌, refl, sym, ap, ap₂, ◌∙◌, subst}
use Prim.Native.Nat.{ℕ, zero, suc, ◌+◌, ◌*◌, ◌/◌, ◌%◌, ◌^◌, ◌≤◌, ◌<◌}
use native.Mathlib.Decide.{dec_lt}
use native.Mathlib.Nat.{le_antisymm}
use native.Mathlib.Omega.{arith}
use lib.Dec.{eqb, lit<, lit≤}
use lib.ListN.{length, take, drop, get_or, length-append, length-take, length-drop, take-append-drop, get_or-append, get_or-eq_default}
use lib.Pow.{pow_pos}
use lib.Seq.{take_at, take_all, take-suc, drop_at, drop-drop, get_or-take, length-take-le}
use borrow.Author.Tests.{le-leb, leb-true}
use Rattle.bits.specs.Bits.{test_bit, number}
use Rattle.bits.specs.Choice.{digit}
use Rattle.bits.proofs.Bits.{digit-eq}
use Rattle.bits.proofs.Searches.{digit_lt}
use Rattle.octets.specs.Bytes.{le, value, parts, joined, over, AreBytes}
use Rattle.octets.proofs.Bytes.{bytes_take, bytes_drop, length-le, value-le, value-below, le-value-at, length-parts, parts_at, parts-joined, joined-parts, length-joined}
use Rattle.predicates.specs.declared.Predicate.{Predicate}
use Rattle.predicates.specs.Predicate.{pack, predicate_length, has_bit_from}
use Rattle.predicates.proofs.Words.{pack_words}
use Rattle.registers.specs.declared.State.{State}
use Rattle.registers.specs.Legal.{has_all_registers, is_length, settings_allowed, legal}
use Rattle.registers.specs.State.{all_false, ffr, counted, read_p}
use Rattle.registers.proofs.Legality.{Legal, all_sized, legal_has, legal_sized, has_legal, settings_has, has_settings, quads, legal-counted, made_counts}
use Rattle.registers.proofs.Registers.{Sized, all_length}
use Rattle.image.specs.Sections.{Section, setting, sections, section_at, count_of, content_of, is_missing, after, section_reply, sections_reply, start_of, bytes_of, image_length, largest_image}
use Rattle.image.specs.Image.{section, setting_items, predicate_bytes, flag_items, image_of}
use Rattle.image.specs.Reading.{vl_of, sections_of, x_at, predicates_at, ffr_at, flags_at, words_at, is_old, image_reply, flags_in, predicate_of, ffr_in, state_of, words_of, renewed, read_of, list_after}
use Rattle.image.specs.Writing.{written_of, buffer_after}
use Rattle.image.specs.Held.{Held}
use Rattle.image.proofs.PredicateBytes.{byte_bits, length_bytes, predicate_back, predicate_again, predicate_within}
use Rattle.image.proofs.SectionLaws.{Whole, next, unfaulted, after_missing, taken, after_taken}
use Rattle.image.proofs.Readings.{Sound, sound, done_with_room, old_ffr, new-ffr, read-ffr}
use Rattle.image.proofs.Writings.{section-length, largest_is, image_length_lem, image_bytes, reply_done, legal-vl}

-- ---- a section that was written

module _ {A : Type 0} (g : A → List ℕ) (items : List A) (rest : List ℕ) where
  written_content : content_of (section g items ++ rest) ≡ joined g items ++ rest
  unfolding section
  written_content = rw append_assoc (drop_at (le 4 (length items)) (joined g items ++ rest) 4 (length-le 4 (length items)))

  module _ (few : length items < 256 ^ 4) where
    written_count : count_of (section g items ++ rest) ≡ length items
    unfolding section
    written_count = rw (append_assoc, take_at (le 4 (length items)) (joined g items ++ rest) 4 (length-le 4 (length items)), value-le 4 (length items) few)

    -- whose count does not say that it is missing
    module _ (s : Section) (len : (x : A) → length (g x) ≡ s.item) (there : (s.optional && eqb (length items) 4) ≡ false) where
      written_present : is_missing s (section g items ++ rest) ≡ false
      written_present = rw written_count there

      written_after : after s (section g items ++ rest) ≡ rest
      written_after = rw (written_present, written_count, ← drop-drop, written_content) (drop_at (joined g items) rest (length items * s.item) (length-joined g s.item len items))

      written-whole : s.lowest ≤ length items → length items ≤ s.highest → ((i : ℕ) → i < length items * s.item → s.allowed i (get_or (joined g items ++ rest) i 0) ≡ true)
          → section_reply s (section g items ++ rest) ≡ Ok tt
      written-whole low high right =
          unfaulted s (section g items ++ rest) (record {
            present = written_present;
            at_least = rw written_count low;
            at_most = rw written_count high;
            within = rw written_count (omega (arith, length-append (section g items) rest, section-length g s.item len items));
            right = λ i l. rw written_content (right i (rw written_count at l));
          })

digit_small : (b : Bool) → digit b ≤ 1
digit_small b = omega (arith, digit_lt b)

digit-byte : (b : Bool) → eqb (digit b % 256) 1 ≡ b
digit-byte true = refl
digit-byte false = refl

-- PL, in bytes
pub length_bits : (vl : ℕ) → is_length vl ≡ true → predicate_length vl ≡ 8 * (vl / 64)
unfolding predicate_length
length_bits vl h = let (q, e, _, l) = quads vl h in omega arith

-- ---- reading what was written

module _ (s : State) (ws : List ℕ) (held : Held s) (ok : legal s ≡ true) (few : length ws ≤ 4096) (words : (i : ℕ) → get_or ws i 0 < 2 ^ 32) where
  abbrev size : ℕ
  size = s.vl / 64

  -- P0 to P15
  abbrev low : List Predicate
  low = take ffr s.p

  abbrev r5 : List ℕ
  r5 = section (le 4) ws ++ []

  abbrev r4 : List ℕ
  r4 = section (le 1) (flag_items s.flags) ++ r5

  abbrev r3 : List ℕ
  r3 = section (predicate_bytes size) (read_p s ffr ∷ []) ++ r4

  abbrev r2 : List ℕ
  r2 = section (predicate_bytes size) low ++ r3

  abbrev r1 : List ℕ
  r1 = section (le 8) s.x ++ r2

  abbrev image : List ℕ
  image = section (le 1) (setting_items s) ++ r1

  image_is : image_of s ws ≡ image
  unfolding image_of
  image_is = rw (append-nil (section (le 4) ws))

  lawful : Legal s
  lawful = legal_has s ok

  length_back : 128 * (s.vl / 128 % 256) ≡ s.vl
  length_back = let (q, e, _, l) = quads s.vl lawful.len in omega arith

  level_back : s.level % 256 ≡ s.level
  level_back = omega (arith, lawful.level)

  settings_content : content_of image ≡ joined (le 1) (setting_items s) ++ r1
  settings_content = written_content (le 1) (setting_items s) r1

  vl-read : vl_of image ≡ s.vl
  unfolding joined le
  vl-read = ap (λ (l : List ℕ). 128 * get_or l 0 0) settings_content ∙ length_back

  abbrev ss : List Section
  ss = sections s.vl

  many_x : length s.x < 256 ^ 4
  many_x = omega (arith, lawful.sized.xs)

  length-low : length low ≡ 16
  length-low = length-take-le ffr s.p (omega (arith, lawful.sized.ps))

  many_p : length low < 256 ^ 4
  many_p = omega (arith, length-low)

  many_words : length ws < 256 ^ 4
  many_words = omega arith

  at_x : start_of ss 1 image ≡ r1
  unfolding start_of sections
  at_x = written_after (le 1) (setting_items s) r1 (lit< tt) (section_at ss 0) (length-le 1) refl

  at_p : start_of ss 2 image ≡ r2
  unfolding start_of sections
  at_p = ap (after (section_at ss 1)) at_x ∙ written_after (le 8) s.x r2 many_x (section_at ss 1) (length-le 8) refl

  at-ffr : start_of ss 3 image ≡ r3
  unfolding start_of sections
  at-ffr = ap (after (section_at ss 2)) at_p ∙ written_after (predicate_bytes size) low r3 many_p (section_at ss 2) (length_bytes size) refl

  at_flags : start_of ss 4 image ≡ r4
  unfolding start_of sections
  at_flags = ap (after (section_at ss 3)) at-ffr ∙ written_after (predicate_bytes size) (read_p s ffr ∷ []) r4 (lit< tt) (section_at ss 3) (length_bytes size) refl

  at_words : start_of ss 5 image ≡ r5
  unfolding start_of sections
  at_words = ap (after (section_at ss 4)) at_flags ∙ written_after (le 1) (flag_items s.flags) r5 (lit< tt) (section_at ss 4) (length-le 1) refl

  settings_right : (i : ℕ) → i < 3 → setting s.vl i (get_or (joined (le 1) (setting_items s) ++ r1) i 0) ≡ true
  unfolding setting joined le
  settings_right zero l = rw length_back (has_settings s.vl 0 lawful.len (lit≤ tt))
  settings_right (suc zero) l = rw level_back (has_settings s.vl s.level lawful.len lawful.level)
  settings_right (suc (suc zero)) l = le-leb (digit s.access % 256) 1 (omega (arith, digit_small s.access))
  settings_right (suc (suc (suc i))) l = absurd (omega arith)

  flags_right : (i : ℕ) → i < 4 → (section_at ss 4).allowed i (get_or (joined (le 1) (flag_items s.flags) ++ r5) i 0) ≡ true
  unfolding sections joined le
  flags_right zero l = le-leb (digit s.flags.n % 256) 1 (omega (arith, digit_small s.flags.n))
  flags_right (suc zero) l = le-leb (digit s.flags.z % 256) 1 (omega (arith, digit_small s.flags.z))
  flags_right (suc (suc zero)) l = le-leb (digit s.flags.c % 256) 1 (omega (arith, digit_small s.flags.c))
  flags_right (suc (suc (suc zero))) l = le-leb (digit s.flags.v % 256) 1 (omega (arith, digit_small s.flags.v))
  flags_right (suc (suc (suc (suc i)))) l = absurd (omega arith)

  sections-written : sections_reply ss image ≡ Ok tt
  unfolding sections_reply sections start_of
  sections-written =
      next _ _ (written-whole (le 1) (setting_items s) r1 (lit< tt) (section_at ss 0) (length-le 1) refl (lit≤ tt) (lit≤ tt) settings_right)
      ∙ ap (sections_reply (drop 1 ss)) at_x
      ∙ next _ _ (written-whole (le 8) s.x r2 many_x (section_at ss 1) (length-le 8) refl (omega (arith, lawful.sized.xs)) (omega (arith, lawful.sized.xs)) (λ i l. refl))
      ∙ ap (sections_reply (drop 2 ss)) (written_after (le 8) s.x r2 many_x (section_at ss 1) (length-le 8) refl)
      ∙ next _ _ (written-whole (predicate_bytes size) low r3 many_p (section_at ss 2) (length_bytes size) refl (omega (arith, length-low)) (omega (arith, length-low)) (λ i l. refl))
      ∙ ap (sections_reply (drop 3 ss)) (written_after (predicate_bytes size) low r3 many_p (section_at ss 2) (length_bytes size) refl)
      ∙ next _ _ (written-whole (predicate_bytes size) (read_p s ffr ∷ []) r4 (lit< tt) (section_at ss 3) (length_bytes size) refl (lit≤ tt) (lit≤ tt) (λ i l. refl))
      ∙ ap (sections_reply (drop 4 ss)) (written_after (predicate_bytes size) (read_p s ffr ∷ []) r4 (lit< tt) (section_at ss 3) (length_bytes size) refl)
      ∙ next _ _ (written-whole (le 1) (flag_items s.flags) r5 (lit< tt) (section_at ss 4) (length-le 1) refl (lit≤ tt) (lit≤ tt) flags_right)
      ∙ ap (sections_reply (drop 5 ss)) (written_after (le 1) (flag_items s.flags) r5 (lit< tt) (section_at ss 4) (length-le 1) refl)
      ∙ next _ _ (written-whole (le 4) ws [] many_words (section_at ss 5) (length-le 4) refl (omega arith) few (λ i l. refl))
      ∙ ap (sections_reply []) (written_after (le 4) ws [] many_words (section_at ss 5) (length-le 4) refl)

  count_back : count_of (words_at image) ≡ length ws
  count_back = rw (vl-read, at_words) (written_count (le 4) ws [] many_words)

  pub reply_written : (room : ℕ) → length ws ≤ room → image_reply room (image_of s ws) ≡ Ok tt
  reply_written room fit =
      rw image_is (done_with_room room image (ap (λ (v : ℕ). sections_reply (sections v) image) vl-read ∙ sections-written) (rw count_back fit))

  x_back : parts value 8 31 (content_of (x_at image)) ≡ s.x
  x_back =
      rw (vl-read, at_x, written_content (le 8) s.x r2)
      (subst (λ (n : ℕ). parts value 8 n (joined (le 8) s.x ++ r2) ≡ s.x) lawful.sized.xs
      (parts-joined value 8 (le 8) 0 s.x r2 (λ i. length-le 8 (get_or s.x i 0)) (λ i l. value-le 8 (get_or s.x i 0) (held.xs i))))

  predicate_same : (r : ℕ) → r < 17 → predicate_of (predicate_bytes size (read_p s r)) ≡ read_p s r
  predicate_same r h = predicate_back size (read_p s r) (held.ps r h) (rw (length_bits s.vl lawful.len) at (lawful.bits r (omega (arith, lawful.sized.ps))))

  low_same : (i : ℕ) → i < length low → predicate_of (predicate_bytes size (get_or low i all_false)) ≡ get_or low i all_false
  low_same i l = rw (get_or-take ffr s.p i all_false (omega (arith, length-low))) (predicate_same i (omega (arith, length-low)))

  p_back : parts predicate_of (vl_of image / 64) ffr (content_of (predicates_at image)) ≡ low
  p_back =
      rw (vl-read, at_p, written_content (predicate_bytes size) low r3)
      (subst (λ (n : ℕ). parts predicate_of size n (joined (predicate_bytes size) low ++ r3) ≡ low) length-low
      (parts-joined predicate_of size (predicate_bytes size) all_false low r3 (λ i. length_bytes size (get_or low i all_false)) low_same))

  image_new : is_old image ≡ false
  unfolding sections
  image_new = rw (vl-read, at-ffr) (written_present (predicate_bytes size) (read_p s ffr ∷ []) r4 (lit< tt) (section_at ss 3) (length_bytes size) refl)

  -- What is written is no old image.
  pub not_old : is_old (image_of s ws) ≡ false
  not_old = rw image_is image_new

  ffr_back : ffr_in image ≡ read_p s ffr
  unfolding joined
  ffr_back =
      let q : Predicate = read_p s ffr in
      new-ffr image image_new
      ∙ rw (vl-read, at-ffr, written_content (predicate_bytes size) (q ∷ []) r4, append-nil (predicate_bytes size q), take_at (predicate_bytes size q) r4 size (length_bytes size q))
      (predicate_same ffr (lit< tt))

  all_back : low ++ (read_p s ffr ∷ []) ≡ s.p
  all_back = sym (take-suc s.p ffr all_false (omega (arith, lawful.sized.ps))) ∙ take_all 17 s.p (omega (arith, lawful.sized.ps))

  flags_back : flags_in (content_of (flags_at image)) ≡ s.flags
  unfolding flags_in joined le
  flags_back =
      rw (vl-read, at_flags, written_content (le 1) (flag_items s.flags) r5, digit-byte s.flags.n, digit-byte s.flags.z, digit-byte s.flags.c, digit-byte s.flags.v)

  state_back : state_of (image_of s ws) ≡ s
  unfolding state_of joined le
  state_back = rw (image_is, p_back, ffr_back, all_back, x_back, flags_back, vl-read, settings_content, level_back, digit-byte s.access) (legal-counted s ok)

  words_back : words_of (image_of s ws) ≡ ws
  unfolding words_of
  words_back =
      rw (image_is, count_back, vl-read, at_words, written_content (le 4) ws [])
      (parts-joined value 4 (le 4) 0 ws [] (λ i. length-le 4 (get_or ws i 0)) (λ i l. value-le 4 (get_or ws i 0) (words i)))

  -- Reading what was written gives that state and the number of those words ..
  pub read-written : (room : ℕ) → length ws ≤ room → read_of room (image_of s ws) ≡ Ok (record { state = s; count = length ws })
  unfolding read_of
  read-written room fit = rw (state_back, image_is, count_back) (next _ _ (rw image_is at (reply_written room fit)))

  -- .. and puts those words in the list.
  pub list_written : (list : List ℕ) → length ws ≤ length list → list_after (image_of s ws) list ≡ over ws list
  unfolding list_after
  list_written list fit = rw (reply_written (length list) fit, words_back)

-- ---- what is always written, and how long images are

-- A legal state with at most 4,096 words is written whenever the buffer has room.
pub always-written : (s : State) (ws buffer : List ℕ) → legal s ≡ true → length ws ≤ 4096 → length (image_of s ws) ≤ length buffer
    → (written_of s ws (length buffer) ≡ Ok (length (image_of s ws))) × (buffer_after s ws buffer ≡ over (image_of s ws) buffer)
unfolding written_of buffer_after
always-written s ws buffer h few fit = let e = reply_done s ws (length buffer) h few fit in (next _ _ (sym e), rw (← e))

pub shortest : (s : State) → has_all_registers s ≡ true → s.vl ≡ 128 → length (image_of s []) ≡ 313
unfolding image_length sections bytes_of
shortest s all e = image_length_lem s (all_sized s all) [] ∙ ap (λ (v : ℕ). image_length v 0) e

pub longest : (s : State) (ws : List ℕ) → legal s ≡ true → length ws ≤ 4096 → length (image_of s ws) ≤ largest_image
longest s ws h few = omega (arith, largest_is, image_bytes s (legal_sized s h) ws, legal-vl s h)

pub longest_is : (s : State) (ws : List ℕ) → has_all_registers s ≡ true → s.vl ≡ 2048 → length ws ≡ 4096 → length (image_of s ws) ≡ largest_image
longest_is s ws all e n = image_length_lem s (all_sized s all) ws ∙ ap₂ image_length e n

-- ---- a section that was read

-- a section of n parts is its content, put together again
again : {A : Type 0} (s : Section) (f : List ℕ → A) (g : A → List ℕ) (rest : List ℕ) (n : ℕ) → count_of rest ≡ n → AreBytes rest → Whole s rest
    → ((bs : List ℕ) → length bs ≡ s.item → AreBytes bs → g (f bs) ≡ bs)
    → section g (parts f s.item n (content_of rest)) ++ after s rest ≡ rest
unfolding section
again s f g rest n e b w back =
    let m : ℕ = count_of rest * s.item in
    let l : length (take 4 rest) ≡ 4 = length-take-le 4 rest (omega (arith, w.within)) in
    let k : m ≤ length (content_of rest) = omega (arith, length-drop 4 rest, w.within) in
    rw (w.present, ← e, length-parts f s.item (count_of rest) (content_of rest), joined-parts f s.item g back (count_of rest) (content_of rest) k (bytes_drop 4 rest b), le-value-at 4 (take 4 rest) l (bytes_take 4 rest b), append_assoc, ← drop-drop)
    (ap (λ (r : List ℕ). take 4 rest ++ r) (take-append-drop m (drop 4 rest)) ∙ take-append-drop 4 rest)

-- items of one byte
one_byte : (bs : List ℕ) → value (take 1 bs) ≡ get_or bs 0 0
unfolding value
one_byte [] = refl
one_byte (b ∷ bs) = omega arith

byte-after : (bs : List ℕ) (k : ℕ) → get_or (drop 1 bs) k 0 ≡ get_or bs (suc k) 0
byte-after [] k = refl
byte-after (b ∷ bs) k = refl

three_parts : (bs : List ℕ) → parts value 1 3 bs ≡ get_or bs 0 0 ∷ get_or bs 1 0 ∷ get_or bs 2 0 ∷ []
unfolding parts
three_parts bs = simp (one_byte, byte-after)

four_parts : (bs : List ℕ) → parts value 1 4 bs ≡ get_or bs 0 0 ∷ get_or bs 1 0 ∷ get_or bs 2 0 ∷ get_or bs 3 0 ∷ []
unfolding parts
four_parts bs = simp (one_byte, byte-after)

part_small : (k n : ℕ) (bs : List ℕ) → AreBytes bs → (i : ℕ) → get_or (parts value k n bs) i 0 < 256 ^ k
part_small k n bs b i =
    elim (dec_lt i n) [
      | yes h ↦ rw (parts_at value k n i bs 0 h) (value-below k (take k (drop (i * k) bs)) (omega (arith, length-take k (drop (i * k) bs))) (bytes_take k (drop (i * k) bs) (bytes_drop (i * k) bs b)))
      | no h ↦ rw (get_or-eq_default (parts value k n bs) 0 {n = i} (omega (arith, length-parts value k n bs))) (rw byte_bits (pow_pos (8 * k)))
    ]

-- bytes put in where three parts end
put_in : (a b c f rest : List ℕ) (n : ℕ) (l : List ℕ) → a ++ (b ++ (c ++ rest)) ≡ l → length a + (length b + length c) ≡ n
    → a ++ (b ++ (c ++ (f ++ rest))) ≡ take n l ++ (f ++ drop n l)
put_in a b c f rest n l e h =
    let w : List ℕ = a ++ (b ++ c) in
    let k : length w ≡ n = simp length-append h in
    let m : l ≡ w ++ rest = sym e ∙ simp append_assoc in
    rw (m, take_at w rest n k, drop_at w rest n k) (simp append_assoc)

-- ---- writing what was read

pub renewed-new : (image : List ℕ) → is_old image ≡ false → renewed image ≡ image
renewed-new image e = rw e

module _ (image : List ℕ) (room : ℕ) (bytes : AreBytes image) (done : image_reply room image ≡ Ok tt) where
  ok : Sound room image
  ok = sound room image done

  abbrev vl : ℕ
  vl = vl_of image

  abbrev k : ℕ
  k = vl_of image / 64

  count-settings : count_of image ≡ 3
  unfolding sections start_of
  count-settings = let w = ok.each 0 (lit< tt) refl in le_antisymm w.at_most w.at_least

  setting_right : (i : ℕ) → i < 3 → setting vl i (get_or (content_of image) i 0) ≡ true
  unfolding sections start_of
  setting_right i l = let w = ok.each 0 (lit< tt) refl in w.right i (rw count-settings (omega arith))

  settings_allowed_lem : settings_allowed vl (get_or (content_of image) 1 0) ≡ true
  unfolding setting
  settings_allowed_lem = setting_right 1 (lit< tt)

  is_length_lem : is_length vl ≡ true
  is_length_lem = (settings_has vl (get_or (content_of image) 1 0) settings_allowed_lem).0

  k_small : k ≤ 32
  k_small = let (q, e, _, l) = quads vl is_length_lem in omega arith

  bytes_at : (i : ℕ) → AreBytes (start_of (sections_of image) i image)
  unfolding start_of
  bytes_at zero = bytes
  bytes_at (suc i) =
      let section : Section = section_at (sections_of image) i in
      let rest : List ℕ = start_of (sections_of image) i image in
      subst AreBytes (sym (after_taken section rest)) (bytes_drop (taken section rest) rest (bytes_at i))

  count_x : count_of (x_at image) ≡ 31
  unfolding sections
  count_x = let w = ok.each 1 (lit< tt) refl in le_antisymm w.at_most w.at_least

  count_p : count_of (predicates_at image) ≡ 16
  unfolding sections
  count_p = let w = ok.each 2 (lit< tt) refl in le_antisymm w.at_most w.at_least

  count_flags_lem : count_of (flags_at image) ≡ 4
  unfolding sections
  count_flags_lem = let w = ok.each 4 (lit< tt) refl in le_antisymm w.at_most w.at_least

  flag_right : (i : ℕ) → i < 4 → digit (eqb (get_or (content_of (flags_at image)) i 0) 1) ≡ get_or (content_of (flags_at image)) i 0
  unfolding sections
  flag_right i l =
      let w = ok.each 4 (lit< tt) refl in
      digit-eq (get_or (content_of (flags_at image)) i 0) (omega (arith, leb-true (get_or (content_of (flags_at image)) i 0) 1 (w.right i (rw count_flags_lem (omega arith)))))

  words_again : section (le 4) (words_of image) ≡ words_at image
  unfolding sections start_of words_of
  words_again =
      let t : after (section_at (sections vl) 5) (words_at image) ≡ [] = none _ ok.ends in
      sym (append-nil (section (le 4) (parts value 4 (count_of (words_at image)) (content_of (words_at image))))) ∙ ap (λ (z : List ℕ). section (le 4) (parts value 4 (count_of (words_at image)) (content_of (words_at image))) ++ z) (sym t)
      ∙ again (section_at (sections vl) 5) value (le 4) (words_at image) (count_of (words_at image)) refl (bytes_at 5) (ok.each 5 (lit< tt) refl) (le-value-at 4)
    where
      none : (l : List ℕ) → length l ≤ 0 → l ≡ []
      none [] h = refl
      none (x ∷ l) h = absurd (omega arith)

  flags_again : section (le 1) (flag_items (flags_in (content_of (flags_at image)))) ++ words_at image ≡ flags_at image
  unfolding sections start_of flags_in
  flags_again =
      let c : List ℕ = content_of (flags_at image) in
      rw (flag_right 0 (lit< tt), flag_right 1 (lit< tt), flag_right 2 (lit< tt), flag_right 3 (lit< tt), ← four_parts c)
      (again (section_at (sections vl) 4) value (le 1) (flags_at image) 4 count_flags_lem (bytes_at 4) (ok.each 4 (lit< tt) refl) (le-value-at 1))

  -- the sections up to the flags, as they are written
  abbrev ffr_section : List ℕ
  ffr_section = section (predicate_bytes k) (ffr_in image ∷ [])

  ffr_again : is_old image ≡ false → ffr_section ++ flags_at image ≡ ffr_at image
  unfolding sections start_of parts
  ffr_again new =
      let w = ok.each 3 (lit< tt) new in
      ap (λ (q : Predicate). section (predicate_bytes k) (q ∷ []) ++ flags_at image) (new-ffr image new)
      ∙ again (section_at (sections vl) 3) predicate_of (predicate_bytes k) (ffr_at image) 1 (le_antisymm w.at_most w.at_least) (bytes_at 3) w (λ bs e h. predicate_again k bs k_small e h)

  abbrev p_section : List ℕ
  p_section = section (predicate_bytes k) (parts predicate_of k ffr (content_of (predicates_at image)))

  predicates_again : p_section ++ ffr_at image ≡ predicates_at image
  unfolding sections start_of
  predicates_again =
      again (section_at (sections vl) 2) predicate_of (predicate_bytes k) (predicates_at image) 16 count_p (bytes_at 2) (ok.each 2 (lit< tt) refl) (λ bs e h. predicate_again k bs k_small e h)

  abbrev x_section : List ℕ
  x_section = section (le 8) (parts value 8 31 (content_of (x_at image)))

  x_again : x_section ++ predicates_at image ≡ x_at image
  unfolding sections start_of
  x_again = again (section_at (sections vl) 1) value (le 8) (x_at image) 31 count_x (bytes_at 1) (ok.each 1 (lit< tt) refl) (le-value-at 8)

  abbrev settings_section : List ℕ
  settings_section = section (le 1) (setting_items (state_of image))

  settings_again : settings_section ++ x_at image ≡ image
  unfolding sections start_of state_of setting
  settings_again =
      let c : List ℕ = content_of image in
      let q : 128 * get_or c 0 0 / 128 ≡ get_or c 0 0 = omega arith in
      let d : digit (eqb (get_or c 2 0) 1) ≡ get_or c 2 0 = digit-eq (get_or c 2 0) (omega (arith, leb-true (get_or c 2 0) 1 (setting_right 2 (lit< tt)))) in
      rw (q, d, ← three_parts c) (again (section_at (sections vl) 0) value (le 1) image 3 count-settings bytes (ok.each 0 (lit< tt) refl) (le-value-at 1))

  -- up to FFR the sections are the bytes that were read
  front_again : settings_section ++ (x_section ++ (p_section ++ ffr_at image)) ≡ image
  front_again = rw (predicates_again, x_again) settings_again

  front_length : length settings_section + (length x_section + length p_section) ≡ bytes_of (λ s. s.lowest) (take 3 (sections_of image))
  unfolding sections bytes_of
  front_length =
      let a = section-length (le 1) 1 (length-le 1) (setting_items (state_of image)) in
      let b = rw (length-parts value 8 31 (content_of (x_at image))) at (section-length (le 8) 8 (length-le 8) (parts value 8 31 (content_of (x_at image)))) in
      let c = rw (length-parts predicate_of k ffr (content_of (predicates_at image))) at (section-length (predicate_bytes k) k (length_bytes k) (parts predicate_of k ffr (content_of (predicates_at image)))) in
      omega arith

  image_is_read : image_of (state_of image) (words_of image) ≡ settings_section ++ (x_section ++ (p_section ++ (ffr_section ++ flags_at image)))
  unfolding image_of state_of
  image_is_read =
      let c : List ℕ = content_of (predicates_at image) in
      rw (words_again, flags_again, read-ffr image, take_at (parts predicate_of k ffr c) (ffr_in image ∷ []) ffr (length-parts predicate_of k ffr c))

  -- Of an image that is not old, the image of what was read is the bytes that were read ..
  pub written_new : is_old image ≡ false → image_of (state_of image) (words_of image) ≡ image
  written_new new = image_is_read ∙ ap (λ (z : List ℕ). settings_section ++ (x_section ++ (p_section ++ z))) (ffr_again new) ∙ front_again

  -- .. and of an old one those bytes with a section for FFR, all false, put in after P.
  pub written_old : is_old image ≡ true → image_of (state_of image) (words_of image) ≡ renewed image
  unfolding start_of
  written_old old =
      let f : flags_at image ≡ ffr_at image = sym (after_missing (section_at (sections_of image) 3) (ffr_at image) true (sym old) refl) in
      image_is_read
      ∙ ap₂ (λ (q : Predicate) (z : List ℕ). settings_section ++ (x_section ++ (p_section ++ (section (predicate_bytes k) (q ∷ []) ++ z)))) (old_ffr image old) f
      ∙ put_in settings_section x_section p_section (section (predicate_bytes k) (all_false ∷ [])) (ffr_at image) (bytes_of (λ s. s.lowest) (take 3 (sections_of image))) image front_again front_length
      ∙ rw old

  -- The image of what was read is the bytes that were read, renewed.
  pub written_read : image_of (state_of image) (words_of image) ≡ renewed image
  written_read = go (is_old image) refl
    where
      go : (t : Bool) → is_old image ≡ t → image_of (state_of image) (words_of image) ≡ renewed image
      go true e = written_old e
      go false e = written_new e ∙ sym (renewed-new image e)

  -- what each predicate was read of: at most k bytes, and none if it is FFR and the image is old
  record Bytes (q : Predicate) : Type 0 where
    bs : List ℕ
    few : length bs ≤ k
    each : AreBytes bs
    is : q ≡ predicate_of bs

  some_bytes : (rest : List ℕ) → AreBytes rest → Bytes (predicate_of (take k rest))
  some_bytes rest b = record { bs = take k rest; few = omega (arith, length-take k rest); each = bytes_take k rest b; is = refl }

  ffr_bytes : (t : Bool) → is_old image ≡ t → Bytes (ffr_in image)
  unfolding predicate_of value pack test_bit number
  ffr_bytes true e = record { bs = []; few = omega arith; each = λ i. lit< tt; is = old_ffr image e }
  ffr_bytes false e = subst Bytes (sym (new-ffr image e)) (some_bytes (content_of (ffr_at image)) (bytes_drop 4 (ffr_at image) (bytes_at 3)))

  predicate_bytes_lem : (r : ℕ) → r < 17 → Bytes (read_p (state_of image) r)
  unfolding state_of
  predicate_bytes_lem r h =
      let c : List ℕ = content_of (predicates_at image) in
      elim (dec_lt r 16) [
        | yes l ↦
            rw (get_or-append (parts predicate_of k ffr c) (ffr_in image ∷ []) all_false r (omega (arith, length-parts predicate_of k ffr c)), parts_at predicate_of k ffr r c all_false l)
            (some_bytes (drop (r * k) c) (bytes_drop (r * k) c (bytes_drop 4 (predicates_at image) (bytes_at 2))))
        | no l ↦ let e : r ≡ ffr = omega arith in rw (e, read-ffr image) (ffr_bytes (is_old image) refl)
      ]

  -- The state that was read has its counts worked out.
  pub read-counted : counted (state_of image) ≡ state_of image
  unfolding state_of
  read-counted = refl

  predicates_read : length (state_of image).p ≡ 17
  unfolding state_of
  predicates_read = length-append (parts predicate_of k ffr (content_of (predicates_at image))) (ffr_in image ∷ []) ∙ rw (length-parts predicate_of k ffr (content_of (predicates_at image)))

  sized_read : Sized (state_of image)
  unfolding state_of
  sized_read = record { xs = length-parts value 8 31 (content_of (x_at image)); ps = predicates_read; cs = all_length _ _ predicates_read }

  -- A state that was read is legal.
  pub read-legal : legal (state_of image) ≡ true
  unfolding state_of
  read-legal =
      has_legal (state_of image) (record { sized = sized_read; len = is_length_lem; level = (settings_has vl (get_or (content_of image) 1 0) settings_allowed_lem).1; bits = bits; counts = made_counts (state_of image) predicates_read refl })
    where
      bits : (r : ℕ) → r < 17 → has_bit_from (predicate_length vl) (read_p (state_of image) r) ≡ false
      bits r h = let b = predicate_bytes_lem r h in rw (length_bits vl is_length_lem, b.is) (predicate_within k b.bs b.few b.each)

  pub read_few : length (words_of image) ≤ 4096
  unfolding words_of
  read_few = rw length-parts ok.few

  -- Writing what was read gives the same bytes, renewed, in every buffer that has room for them.
  pub rewritten : (buffer : List ℕ) → length (renewed image) ≤ length buffer
      → (written_of (state_of image) (words_of image) (length buffer) ≡ Ok (length (renewed image)))
      × (buffer_after (state_of image) (words_of image) buffer ≡ over (renewed image) buffer)
  rewritten buffer h = rw written_read at (always-written (state_of image) (words_of image) buffer read-legal read_few (rw written_read h))

  -- What was read is as every state and every word of the code is, so that it can be read again when written.
  pub read_held : Held (state_of image)
  unfolding state_of predicate_of
  read_held =
      record {
        xs = part_small 8 31 (content_of (x_at image)) (bytes_drop 4 (x_at image) (bytes_at 1));
        ps = λ r h. rw (predicate_bytes_lem r h).is (pack_words _);
      }

  pub read_words : (i : ℕ) → get_or (words_of image) i 0 < 2 ^ 32
  unfolding words_of
  read_words = part_small 4 (count_of (words_at image)) (content_of (words_at image)) (bytes_drop 4 (words_at image) (bytes_at 5))
