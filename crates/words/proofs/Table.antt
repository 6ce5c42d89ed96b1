-- The table's rules, each computed once over all its rows: every layout is a whole word, well formed, begins with the opcode, and no two forms share a word.
use Rattle.std.specs.Prelude.{Ok}
use Prim.Native.Nat.{ℕ, zero, suc, ◌+◌, ◌*◌, ◌-◌, ◌<◌, ◌/◌, ◌%◌, ◌^◌}
use mathlib.Core.Path.{◌≡◌, refl, sym, ap, ◌∙◌}
use mathlib.Core.Bool.{Bool, true, false, ◌&&◌, false≢true}
use mathlib.Core.List.{List, [], ◌∷◌}
use native.Mathlib.Omega.{arith}
use lib.ListN.{length, get_or, drop}
use lib.Seq.{get_or-drop}
use lib.Dec.{ltb, eqb}
use lib.Pow as Pow
use borrow.Author.Tests.{eqb-true, eq-eqb, ltb-true}
use Rattle.words.specs.Layout.{Piece, span, slice, matches, cut, from}
use Rattle.words.specs.Layout.Piece.{fixed, field}
use Rattle.words.specs.Words.{flag, logic_has_word, Form, pfalse_form, forms, form_at, reads, instruction_in, has_opcode, read_by, decode_of}
use Rattle.words.proofs.Codec.{both, and_pair, well_formed}
use Rattle.words.proofs.Clash.{clash, apart}
use Rattle.words.proofs.Reading.{hit, skip}

abbrev pub every : (Form → Bool) → List Form → Bool
every p [] = true
every p (f ∷ fs) = p f && every p fs

-- each form clashes with each after it
abbrev pub pairwise : List Form → Bool
pairwise [] = true
pairwise (f ∷ fs) = every (λ (g : Form). clash f.layout g.layout 32) fs && pairwise fs

abbrev pub whole : Form → Bool
whole f = eqb (span f.layout) 32 && well_formed f.layout

-- each layout is 32 bits wide and well formed
pub all_whole : every whole forms ≡ true
all_whole = refl

-- every two layouts fix some bit differently
pub all_apart : pairwise forms ≡ true
all_apart = refl

every-at : (p : Form → Bool) (fs : List Form) (d : Form) (n : ℕ) → every p fs ≡ true → p d ≡ true → p (get_or fs n d) ≡ true
every-at p [] d n h e = e
every-at p (g ∷ gs) d zero h e = (both (p g) (every p gs) h).0
every-at p (g ∷ gs) d (suc n) h e = every-at p gs d n (both (p g) (every p gs) h).1 e

every_in : (p : Form → Bool) (fs : List Form) (d : Form) (n : ℕ) → every p fs ≡ true → n < length fs → p (get_or fs n d) ≡ true
every_in p [] d n h l = absurd (omega arith)
every_in p (g ∷ gs) d zero h l = (both (p g) (every p gs) h).0
every_in p (g ∷ gs) d (suc n) h l = every_in p gs d n (both (p g) (every p gs) h).1 (omega arith)

is_whole : (n : ℕ) → (eqb (span (form_at n).layout) 32 ≡ true) × (well_formed (form_at n).layout ≡ true)
is_whole n = both (eqb (span (form_at n).layout) 32) (well_formed (form_at n).layout) (every-at whole forms pfalse_form n all_whole refl)

pub word_wide : (n : ℕ) → span (form_at n).layout ≡ 32
word_wide n = eqb-true (span (form_at n).layout) 32 (is_whole n).0

pub well_formed_lem : (n : ℕ) → well_formed (form_at n).layout ≡ true
well_formed_lem n = (is_whole n).1

-- a word of a form matches its layout
pub reads-matches : (f : Form) (w : ℕ) → reads f w ≡ true → matches f.layout w ≡ true
reads-matches f w h = (both (from f.allowed (cut f.layout w)) (matches f.layout w) h).1

-- a layout of 32 bits whose first piece fixes 31:24 to 00100101, and maybe more below them
abbrev pub opens : List Piece → Bool
opens [] = false
opens (fixed n v ∷ ps) = eqb (n + span ps) 32 && (ltb 7 n && eqb (v / 2 ^ (n - 8)) 0b00100101)
opens (field n ∷ ps) = false

-- the highest eight bits of a slice
top_of-slice : (s k w : ℕ) → slice s (8 + k) w / 2 ^ k ≡ slice (s + k) 8 w
top_of-slice s k w = Pow.field (w / 2 ^ s) 8 k ∙ ap (λ (x : ℕ). x % 2 ^ 8) (Pow.shr-shr w s k)

opened : (ps : List Piece) (w : ℕ) → opens ps ≡ true → matches ps w ≡ true → slice 24 8 w ≡ 0b00100101
opened [] w o h = absurd (false≢true o)
opened (fixed n v ∷ ps) w o h =
    let (e, _) = both (eqb (slice (span ps) n w) v) (matches ps w) h in
    let (l, r) = both (eqb (n + span ps) 32) (ltb 7 n && eqb (v / 2 ^ (n - 8)) 0b00100101) o in
    let (m, t) = both (ltb 7 n) (eqb (v / 2 ^ (n - 8)) 0b00100101) r in
    let wide : n + span ps ≡ 32 = eqb-true (n + span ps) 32 l in
    let over : 7 < n = ltb-true 7 n m in
    let low : 24 ≡ span ps + (n - 8) = omega arith in
    let all : 8 + (n - 8) ≡ n = omega arith in
    ap (λ (x : ℕ). slice x 8 w) low
    ∙ sym (top_of-slice (span ps) (n - 8) w)
    ∙ ap (λ (x : ℕ). slice (span ps) x w / 2 ^ (n - 8)) all
    ∙ ap (λ (x : ℕ). x / 2 ^ (n - 8)) (eqb-true (slice (span ps) n w) v e)
    ∙ eqb-true (v / 2 ^ (n - 8)) 0b00100101 t
opened (field n ∷ ps) w o h = absurd (false≢true o)

-- each layout begins so
pub all_open : every (λ (f : Form). opens f.layout) forms ≡ true
all_open = refl

pub has_opcode_lem : (n w : ℕ) → matches (form_at n).layout w ≡ true → has_opcode w ≡ true
has_opcode_lem n w h =
    and_pair (eq-eqb (slice 24 8 w) 0b00100101 (opened (form_at n).layout w (every-at (λ (f : Form). opens f.layout) forms pfalse_form n all_open refl) h)) refl

not_both : (b : Bool) → (b ≡ true → ⊥) → b ≡ false
not_both true h = absurd (h refl)
not_both false h = refl

-- the first layout shares no word with a later one
first_apart : (g : Form) (gs : List Form) (n w : ℕ) → pairwise (g ∷ gs) ≡ true → n < length gs → matches g.layout w ≡ true → matches (get_or gs n pfalse_form).layout w ≡ true → ⊥
first_apart g gs n w c l h k =
    let (a, _) = both (every (λ (j : Form). clash g.layout j.layout 32) gs) (pairwise gs) c in
    apart g.layout (get_or gs n pfalse_form).layout 32 w (every_in (λ (j : Form). clash g.layout j.layout 32) gs pfalse_form n a l) h k

rest_pairwise : (g : Form) (gs : List Form) → pairwise (g ∷ gs) ≡ true → pairwise gs ≡ true
rest_pairwise g gs c = (both (every (λ (j : Form). clash g.layout j.layout 32) gs) (pairwise gs) c).1

finds_in : (fs : List Form) (n w : ℕ) → pairwise fs ≡ true → n < length fs → reads (get_or fs n pfalse_form) w ≡ true → Ok (instruction_in (get_or fs n pfalse_form) w) ≡ read_by fs w
finds_in [] n w c l h = absurd (omega arith)
finds_in (g ∷ gs) zero w c l h = hit g gs w refl h refl
finds_in (g ∷ gs) (suc n) w c l h =
    skip g gs w refl
    (not_both (reads g w) (λ k. first_apart g gs n w c (omega arith) (reads-matches g w k) (reads-matches (get_or gs n pfalse_form) w h)))
    (finds_in gs n w (rest_pairwise g gs c) (omega arith) h)

-- a word of a form is read as that form
pub finds : (n w : ℕ) → n < length forms → reads (form_at n) w ≡ true → Ok (instruction_in (form_at n) w) ≡ decode_of w
finds n w l h = finds_in forms n w all_apart l h

-- no two layouts share a word
one_in : (fs : List Form) (m n w : ℕ) → pairwise fs ≡ true → m < length fs → n < length fs → matches (get_or fs m pfalse_form).layout w ≡ true
    → matches (get_or fs n pfalse_form).layout w ≡ true → m ≡ n
one_in [] m n w c a b h k = absurd (omega arith)
one_in (g ∷ gs) zero zero w c a b h k = refl
one_in (g ∷ gs) zero (suc n) w c a b h k = absurd (first_apart g gs n w c (omega arith) h k)
one_in (g ∷ gs) (suc m) zero w c a b h k = absurd (first_apart g gs m w c (omega arith) k h)
one_in (g ∷ gs) (suc m) (suc n) w c a b h k = ap suc (one_in gs m n w (rest_pairwise g gs c) (omega arith) (omega arith) h k)

pub one_layout : (m n w : ℕ) → m < length forms → n < length forms → matches (form_at m).layout w ≡ true → matches (form_at n).layout w ≡ true → m ≡ n
one_layout m n w a b h k = one_in forms m n w all_apart a b h k

-- a list without its element at k, and what holds of all that is left
abbrev without : ℕ → List Form → List Form
without k [] = []
without zero (f ∷ fs) = fs
without (suc k) (f ∷ fs) = f ∷ without k fs

every-other : (p : Form → Bool) (fs : List Form) (d : Form) (k n : ℕ) → every p (without k fs) ≡ true → p d ≡ true → (n ≡ k → ⊥) → p (get_or fs n d) ≡ true
every-other p [] d k n h e l = e
every-other p (g ∷ gs) d zero zero h e l = absurd (l refl)
every-other p (g ∷ gs) d zero (suc n) h e l = every-at p gs d n h e
every-other p (g ∷ gs) d (suc k) zero h e l = (both (p g) (every p (without k gs)) h).0
every-other p (g ∷ gs) d (suc k) (suc n) h e l = every-other p gs d k n (both (p g) (every p (without k gs)) h).1 e (λ q. l (ap suc q))

-- every form but logic's has a word with any fields
pub others_allowed : (n : ℕ) (xs : List ℕ) → (n ≡ 11 → ⊥) → true ≡ from (form_at n).allowed xs
others_allowed n xs h = sym (every-other (λ (f : Form). from f.allowed xs) forms pfalse_form 11 n refl refl h)

-- logic has a word with those that leave SEL and S = 1 apart
pub logic_allowed : (n : ℕ) (row : List ℕ) {a b d : ℕ} {t : Bool} → n ≡ 11 → a ≡ get_or row 1 0 → b ≡ get_or row 5 0 → d ≡ get_or row 7 0 → t ≡ logic_has_word (a * 4 + b * 2 + d) (flag (get_or row 2 0))
    → t ≡ from (form_at n).allowed (drop 1 row)
logic_allowed n row e ha hb hd ht = ht ∙ rw (e, ha, hb, hd) (sym (simp get_or-drop))
