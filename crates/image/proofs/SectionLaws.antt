-- Laws of sections: what the code finds of one by its number, which fault answers, and what a section without one has. Assumes nothing.
use Rattle.replies.specs.Reply.{Reply}
use Rattle.std.specs.Prelude.{Result, Ok, Err}
use Rattle.std.specs.List.{list_any, range_with_len}
use mathlib.Core.Bool.{Bool, true, false, not, ◌||◌}
use mathlib.Core.List.{List, [], ◌∷◌}
use mathlib.Core.Path.{◌≡◌, refl, sym, ap, ap₂, ◌∙◌}
use Prim.Native.Nat.{ℕ, zero, suc, ◌+◌, ◌*◌, ◌≤◌, ◌<◌}
use native.Mathlib.Nat.{mul-le-mul_right, mul-zero}
use native.Mathlib.Numerals.{add-one}
use native.Mathlib.Omega.{arith}
use lib.Dec.{ltb}
use lib.ListN.{length, take, drop, get_or, length-take, drop_of_length-le}
use lib.Seq.{drop-cons}
use borrow.Author.Tests.{lt-ltb, le-ltb, ltb-false, not-false}
use mir.Syntax.{w8}
use mir.Val.{Fits}
use Rattle.bits.specs.Choice.{pick}
use Rattle.bits.specs.Search.{some}
use Rattle.bits.proofs.Searches.{never, some_no, some-none, some_cong}
use Rattle.octets.proofs.Bytes.{bytes_of, bytes_take, value-below}
use Rattle.replies.specs.declared.Refusal.{Refusal}
use Rattle.replies.specs.declared.Refusal.TheVariants as R
use Rattle.image.specs.declared.sections.Section.{Section as Name}
use Rattle.image.specs.declared.sections.Section.TheVariants as N
use Rattle.image.specs.declared.sections.Shape.{Shape}
use Rattle.image.specs.Sections.{Section, sections, section_at, place_of, shape_of, count_of, content_of, is_missing, after, has_wrong, section_reply, or_else, sections_reply, start_of}
use Rattle.image.specs.Reading.{vl_of, sections_of}

-- ---- a section by its place

abbrev pub all : List Name
all = N.Settings ∷ N.X ∷ N.P ∷ N.Ffr ∷ N.Flags ∷ N.Words ∷ []

pub place_at : (i : ℕ) (d : Name) → i < 6 → place_of (get_or all i d) ≡ i
place_at zero d h = refl
place_at (suc zero) d h = refl
place_at (suc (suc zero)) d h = refl
place_at (suc (suc (suc zero))) d h = refl
place_at (suc (suc (suc (suc zero)))) d h = refl
place_at (suc (suc (suc (suc (suc zero))))) d h = refl
place_at (suc (suc (suc (suc (suc (suc i)))))) d h = absurd (omega arith)

-- past the last section an empty one
pub past_last : (vl i : ℕ) → false ≡ ltb i 6 → section_at (sections vl) i ≡ section_at [] i
unfolding sections
past_last vl zero h = never refl (sym h)
past_last vl (suc zero) h = never refl (sym h)
past_last vl (suc (suc zero)) h = never refl (sym h)
past_last vl (suc (suc (suc zero))) h = never refl (sym h)
past_last vl (suc (suc (suc (suc zero)))) h = never refl (sym h)
past_last vl (suc (suc (suc (suc (suc zero))))) h = never refl (sym h)
past_last vl (suc (suc (suc (suc (suc (suc i)))))) h = refl

pub past-after : (vl i : ℕ) (rest : List ℕ) → false ≡ ltb i 6 → drop 4 rest ≡ after (section_at (sections vl) i) rest
past-after vl i rest h = rw (past_last vl i h, mul-zero) refl

pub count-lt : (rest : List ℕ) → ((i : ℕ) → Fits w8 (get_or rest i 0)) → count_of rest < 4294967296
count-lt rest h = value-below 4 (take 4 rest) (omega (arith, length-take 4 rest)) (bytes_take 4 rest (bytes_of rest h))

-- ---- whether it is missing, and what follows it

module _ (s : Section) (rest : List ℕ) (t : Bool) (e : t ≡ is_missing s rest) where
  pub after_missing : t ≡ true → rest ≡ after s rest
  after_missing h = rw (← e, h)

-- how many bytes it has: none if it is missing
abbrev pub taken : Section → List ℕ → ℕ
taken s rest = pick (is_missing s rest) 0 (4 + count_of rest * s.item)

pub after_taken : (s : Section) (rest : List ℕ) → after s rest ≡ drop (taken s rest) rest
after_taken s rest = go (is_missing s rest)
  where
    go : (t : Bool) → pick t rest (drop (4 + count_of rest * s.item) rest) ≡ drop (pick t 0 (4 + count_of rest * s.item)) rest
    go true = refl
    go false = refl

-- ---- its content, byte by byte

-- a search from the lowest on
some_low : (f : ℕ → Bool) (n : ℕ) → some f (suc n) ≡ (f 0 || some (λ i. f (suc i)) n)
unfolding some
some_low f zero = refl
some_low f (suc n) = ap (λ (t : Bool). f (suc n) || t) (some_low f n) ∙ swap (f (suc n)) (f 0) (some (λ i. f (suc i)) n)
  where
    swap : (a b c : Bool) → (a || (b || c)) ≡ (b || (a || c))
    swap false b c = refl
    swap true true c = refl
    swap true false c = refl

any_from : (f : ℕ → Bool) (n a : ℕ) → list_any f (range_with_len a n) ≡ some (λ i. f (a + i)) n
unfolding some
any_from f zero a = refl
any_from f (suc n) a =
    ap (λ (t : Bool). f a || t) (any_from f n (a + 1) ∙ some_cong (λ i. f (a + 1 + i)) (λ i. f (a + suc i)) n (λ i l. ap f (omega arith)))
    ∙ ap (λ (k : ℕ). f k || some (λ i. f (a + suc i)) n) (omega arith) ∙ sym (some_low (λ i. f (a + i)) n)

pub any_some : (f : ℕ → Bool) (n : ℕ) → list_any f (range_with_len 0 n) ≡ some f n
any_some f n = any_from f n 0 ∙ some_cong (λ i. f (0 + i)) f n (λ i l. ap f (omega arith))

-- ---- the first fault answers

pub first_fault : {A : Type 0} (f g : Reply) (b a : Result A Refusal) (r : Refusal) → f ≡ g → f ≡ Err r → a ≡ Err r → a ≡ or_else g b
unfolding or_else
first_fault f g b a r e d h = rw (h, ← e, d)

pub next : {A : Type 0} (g : Reply) (b : Result A Refusal) → g ≡ Ok tt → or_else g b ≡ b
unfolding or_else
next g b e = rw e

pub both_done : (a b : Reply) → or_else a b ≡ Ok tt → (a ≡ Ok tt) × (b ≡ Ok tt)
unfolding or_else
both_done (Ok tt) b e = (refl, e)
both_done (Err r) b e = absurd (cc)

-- a choice that is done did not refuse
pub not-refused : (t : Bool) (r : Refusal) (k : Reply) → pick t (Err r) k ≡ Ok tt → (t ≡ false) × (k ≡ Ok tt)
not-refused true r k e = absurd (cc)
not-refused false r k e = (refl, e)

-- ---- one section, as the code tests it

module _ (s : Section) (rest : List ℕ) where
  module _ (shape : Shape) (n : ℕ) (m : Bool) (em : m ≡ is_missing s rest) (no : m ≡ false) (es : shape ≡ shape_of s) (en : n ≡ count_of rest) (h : 4 ≤ length rest) where
    there : is_missing s rest ≡ false
    there = sym em ∙ no

    low : s.lowest ≡ shape.lowest
    low = sym (ap (λ (x : Shape). x.lowest) es)

    high : s.highest ≡ shape.highest
    high = sym (ap (λ (x : Shape). x.highest) es)

    pub fault_low : n < shape.lowest → Err R.NotAllowed ≡ section_reply s rest
    unfolding section_reply
    fault_low l = rw (there, ← en, low, le-ltb _ _ h, lt-ltb _ _ l)

    pub fault_high : shape.lowest ≤ n → shape.highest < n → Err R.NotAllowed ≡ section_reply s rest
    unfolding section_reply
    fault_high l g = rw (there, ← en, low, high, le-ltb _ _ h, le-ltb _ _ l, lt-ltb _ _ g)

-- a section that is there, without a fault
pub record Whole (s : Section) (rest : List ℕ) : Type 0 where
  pub present : is_missing s rest ≡ false
  pub at_least : s.lowest ≤ count_of rest
  pub at_most : count_of rest ≤ s.highest
  pub within : 4 + count_of rest * s.item ≤ length rest
  pub right : (i : ℕ) → i < count_of rest * s.item → s.allowed i (get_or (content_of rest) i 0) ≡ true

pub neither : (a b : Bool) → (a || b) ≡ false → (a ≡ false) × (b ≡ false)
neither false b e = (refl, e)
neither true b e = never refl e

pub whole : (s : Section) (rest : List ℕ) → is_missing s rest ≡ false → section_reply s rest ≡ Ok tt → Whole s rest
unfolding section_reply
whole s rest m e =
    let a = not-refused (ltb (length rest) 4) R.ImageCut _ e in
    let b = not-refused (ltb (count_of rest) s.lowest || ltb s.highest (count_of rest)) R.NotAllowed _ (rw m at a.1) in
    let c = not-refused (ltb (length rest) (4 + count_of rest * s.item)) R.ImageCut _ b.1 in
    let d = not-refused (has_wrong s (content_of rest) (count_of rest * s.item)) R.NotAllowed (Ok tt) c.1 in
    let f = neither (ltb (count_of rest) s.lowest) (ltb s.highest (count_of rest)) b.0 in
    record {
      present = m;
      at_least = ltb-false _ _ f.0;
      at_most = ltb-false _ _ f.1;
      within = ltb-false _ _ c.0;
      right = λ i l. not-false _ (some-none _ _ d.0 i l);
    }

pub unfaulted : (s : Section) (rest : List ℕ) → Whole s rest → section_reply s rest ≡ Ok tt
unfolding section_reply
unfaulted s rest w =
    let h : 4 ≤ length rest = omega (arith, w.within) in
    rw (w.present, le-ltb _ _ h, le-ltb _ _ w.at_least, le-ltb _ _ w.at_most, le-ltb _ _ w.within, some_no (λ i. not (s.allowed i (get_or (content_of rest) i 0))) _ (λ i l. ap not (w.right i l)))

-- a section without a fault, there or missing, has no more bytes than its highest count
pub taken_most : (s : Section) (rest : List ℕ) → section_reply s rest ≡ Ok tt → taken s rest ≤ 4 + s.highest * s.item
taken_most s rest e = go (is_missing s rest) refl
  where
    go : (t : Bool) → is_missing s rest ≡ t → pick t 0 (4 + count_of rest * s.item) ≤ 4 + s.highest * s.item
    go true m = omega arith
    go false m = omega (arith, mul-le-mul_right s.item (whole s rest m e).at_most)

-- ---- all sections, one after the other

pub start_turn : (ss : List Section) (i k : ℕ) (image rest past : List ℕ) → k ≡ i → rest ≡ start_of ss i image → past ≡ after (section_at ss k) rest → past ≡ start_of ss (i + 1) image
unfolding start_of
start_turn ss i k image rest past h e p = p ∙ ap₂ (λ (n : ℕ) (r : List ℕ). after (section_at ss n) r) h e ∙ rw add-one

-- the reply of the sections that are left is that of all
pub reply_left : (image rest : List ℕ) (vl i : ℕ) (f : Reply) → vl ≡ vl_of image → sections_reply (drop i (sections vl)) rest ≡ sections_reply (sections vl) image
    → f ≡ sections_reply (drop i (sections vl)) rest → f ≡ sections_reply (sections_of image) image
reply_left image rest vl i f v e h = h ∙ e ∙ ap (λ (x : ℕ). sections_reply (sections x) image) v

pub sections_six : (vl : ℕ) → length (sections vl) ≡ 6
unfolding sections
sections_six vl = refl

module _ (vl : ℕ) (i : ℕ) (l : i < 6) where
  pub here : drop i (sections vl) ≡ section_at (sections vl) i ∷ drop (suc i) (sections vl)
  here = drop-cons (sections vl) i _ (rw sections_six l)

  pub refused_here : (k : ℕ) (rest : List ℕ) (f a : Reply) (r : Refusal) → k ≡ i → f ≡ section_reply (section_at (sections vl) k) rest → f ≡ Err r → a ≡ Err r
      → a ≡ sections_reply (drop i (sections vl)) rest
  unfolding sections_reply
  refused_here k rest f a r ek e d h = rw here (first_fault f _ _ a r (rw ek at e) d h)

  pub passed_on : (k : ℕ) (image rest past : List ℕ) (f : Reply) → k ≡ i → f ≡ section_reply (section_at (sections vl) k) rest → f ≡ Ok tt
      → past ≡ after (section_at (sections vl) k) rest → sections_reply (drop i (sections vl)) rest ≡ sections_reply (sections vl) image
      → sections_reply (drop (i + 1) (sections vl)) past ≡ sections_reply (sections vl) image
  unfolding sections_reply
  passed_on k image rest past f ek e d p h = rw (add-one, p, ek) (sym (next _ _ (sym (rw ek at e) ∙ d))) ∙ sym (ap (λ (l : List Section). sections_reply l rest) here) ∙ h

pub past : (vl i : ℕ) → 6 ≤ i → drop i (sections vl) ≡ []
past vl i l = drop_of_length-le (sections vl) {i = i} (rw sections_six l)

module _ (vl : ℕ) (i : ℕ) (l : 6 ≤ i) (rest : List ℕ) where
  pub bytes_left : 0 < length rest → Err R.TrailingBytes ≡ sections_reply (drop i (sections vl)) rest
  unfolding sections_reply
  bytes_left h = rw (past vl i l, lt-ltb _ _ h)

  pub no_bytes_left : length rest ≤ 0 → Ok tt ≡ sections_reply (drop i (sections vl)) rest
  unfolding sections_reply
  no_bytes_left h = rw (past vl i l, le-ltb _ _ h)
