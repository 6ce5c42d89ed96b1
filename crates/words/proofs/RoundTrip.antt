-- Reading and writing words undo each other, and what each refuses.
use Rattle.std.specs.Prelude.{Result}
use Rattle.std.specs.Prelude.{Ok}
use Rattle.replies.specs.declared.Refusal.{Refusal}
use Rattle.std.specs.Prelude.{Err}
use Prim.Native.Nat.{ℕ, suc, ◌<◌, ◌%◌, ◌^◌}
use lib.ListN.{length, get_or, drop}
use mathlib.Core.Path.{◌≡◌, refl, sym, ap, ap₂, ◌∙◌}
use mathlib.Core.Bool.{Bool, true, false, ◌&&◌}
use mathlib.Core.List.{List, [], ◌∷◌}
use mathlib.Core.Logic.{◌↔◌, ◌⊎◌, inl, inr}
use native.Mathlib.Nat.{mod-eq_of_lt}
use native.Mathlib.Omega.{arith}
use Rattle.bits.specs.Choice.{pick}
use Rattle.replies.specs.declared.Refusal.TheVariants.{FieldPastRange}
use Rattle.words.specs.Layout.{matches, cut, fits, place, from}
use Rattle.words.specs.Words.{Form, pfalse_form, forms, form_at, numbers_of, fields_of, reads, instruction_in, refusal, read_by, decode_of, word_of, in_range, encode_of}
use Rattle.words.specs.declared.Instruction.{Instruction}
use Rattle.words.proofs.Codec.{both, and_pair, place-cut, cut_fits, matches-place, cut-place}
use Rattle.words.proofs.Table.{finds, word_wide, well_formed_lem, reads-matches, one_layout}
use Rattle.words.proofs.Fields.{build_fields, read_back, number_lt}
use Rattle.words.proofs.Reading.{hit, skip, none}

-- an instruction whose fields are within their ranges, written as a word, is read as itself
pub read-written : (i : Instruction) → in_range i ≡ true → decode_of (word_of i) ≡ Ok i
read-written i h =
    let n : ℕ = get_or (numbers_of i) 0 0 in
    let f : Form = form_at n in
    let (a, r) = both (from f.allowed (fields_of i)) (fits f.layout (fields_of i)) h in
    let c : cut f.layout (word_of i) ≡ fields_of i = cut-place f.layout (fields_of i) (well_formed_lem n) r in
    sym (finds n (word_of i) (number_lt i) (and_pair (ap (from f.allowed) c ∙ a) (matches-place f.layout (fields_of i) (well_formed_lem n) r)))
    ∙ ap Ok (ap (from f.build) c ∙ build_fields i)

-- a word is read by a form that it is a word of, or gets the one refusal
abbrev pub Outcome : List Form → ℕ → Type 0
Outcome fs w = ((n : ℕ) × (n < length fs) × (reads (get_or fs n pfalse_form) w ≡ true) × (read_by fs w ≡ Ok (instruction_in (get_or fs n pfalse_form) w))) ⊎ (read_by fs w ≡ Err (refusal w))

outcome_more : (f : Form) (fs : List Form) (w : ℕ) (b : Bool) → reads f w ≡ b → Outcome fs w → Outcome (f ∷ fs) w
outcome_more f fs w true h o = inl (0, omega arith, h, sym (hit f fs w refl h refl))
outcome_more f fs w false h (inl (n, l, m, p)) = inl (suc n, omega arith, m, sym (skip f fs w refl h (sym p)))
outcome_more f fs w false h (inr p) = inr (sym (skip f fs w refl h (sym p)))

pub outcome : (fs : List Form) (w : ℕ) → Outcome fs w
outcome [] w = inr (sym (none w))
outcome (f ∷ fs) w = outcome_more f fs w (reads f w) refl (outcome fs w)

abbrev range_of : List ℕ → Bool
range_of ns = from (form_at (get_or ns 0 0)).allowed (drop 1 ns) && fits (form_at (get_or ns 0 0)).layout (drop 1 ns)

in_range_read : (n w : ℕ) → n < length forms → reads (form_at n) w ≡ true → in_range (instruction_in (form_at n) w) ≡ true
in_range_read n w l h =
    ap range_of (read_back n w l)
    ∙ and_pair (both (from (form_at n).allowed (cut (form_at n).layout w)) (matches (form_at n).layout w) h).0 (cut_fits (form_at n).layout w)

word_read : (n w : ℕ) → n < length forms → w < 2 ^ 32 → reads (form_at n) w ≡ true → word_of (instruction_in (form_at n) w) ≡ w
word_read n w l h m =
    ap (λ (ns : List ℕ). place (form_at (get_or ns 0 0)).layout (drop 1 ns)) (read_back n w l)
    ∙ place-cut (form_at n).layout w (reads-matches (form_at n) w m)
    ∙ ap (λ (k : ℕ). w % 2 ^ k) (word_wide n)
    ∙ mod-eq_of_lt h

-- what a word is read as has its fields within their ranges, and is written as that word
pub written_read : (w : ℕ) (i : Instruction) → w < 2 ^ 32 → decode_of w ≡ Ok i → (in_range i ≡ true) × (word_of i ≡ w)
written_read w i h e = go (outcome forms w)
  where
    go : Outcome forms w → (in_range i ≡ true) × (word_of i ≡ w)
    go (inl (n, l, m, p)) =
        let q : Ok (instruction_in (form_at n) w) ≡ Ok i = sym p ∙ e in
        let r : instruction_in (form_at n) w ≡ i = cc in
        (sym (ap in_range r) ∙ in_range_read n w l m, sym (ap word_of r) ∙ word_read n w l h m)
    go (inr p) =
        let q : Err (refusal w) ≡ Ok i = sym p ∙ e in
        let z : ◌≡◌ {A = ℕ} 0 1 = cc in
        absurd (omega arith)

-- an answer that is a word, and one that is the refusal
pub taken : (b : Bool) (x : Result ℕ Refusal) (w : ℕ) → pick b x (Err FieldPastRange) ≡ Ok w → (b ≡ true) × (x ≡ Ok w)
taken true x w e = (refl, e)
taken false x w e =
    let z : ◌≡◌ {A = ℕ} 0 1 = cc in
    absurd (omega arith)

turned_down : (b : Bool) (w : ℕ) → pick b (Ok w) (Err FieldPastRange) ≡ Err FieldPastRange → b ≡ false
turned_down true w e =
    let z : ◌≡◌ {A = ℕ} 0 1 = cc in
    absurd (omega arith)
turned_down false w e = refl

-- the same two of the answers
pub decode-encode : (i : Instruction) (w : ℕ) → encode_of i ≡ Ok w → decode_of w ≡ Ok i
unfolding encode_of
decode-encode i w e =
    let (r, p) = taken (in_range i) (Ok (word_of i)) w e in
    let q : word_of i ≡ w = cc in
    ap decode_of (sym q) ∙ read-written i r

pub encode-decode : (w : ℕ) (i : Instruction) → w < 2 ^ 32 → decode_of w ≡ Ok i → encode_of i ≡ Ok w
unfolding encode_of
encode-decode w i h e =
    let (r, q) = written_read w i h e in
    ap₂ (λ (b : Bool) (n : ℕ). pick b (Ok n) (Err FieldPastRange)) r q

-- no two forms share a word
pub one_form : (m n w : ℕ) → m < length forms → n < length forms → reads (form_at m) w ≡ true → reads (form_at n) w ≡ true → m ≡ n
one_form m n w a b h k = one_layout m n w a b (reads-matches (form_at m) w h) (reads-matches (form_at n) w k)

-- a word is refused exactly when it is the word of no instruction whose fields are within their ranges
pub refused-read : (w : ℕ) → w < 2 ^ 32 → (decode_of w ≡ Err (refusal w)) ↔ ((i : Instruction) → in_range i ≡ true → word_of i ≡ w → ⊥)
refused-read w h = (no_word, only (outcome forms w))
  where
    no_word : decode_of w ≡ Err (refusal w) → (i : Instruction) → in_range i ≡ true → word_of i ≡ w → ⊥
    no_word e i r q =
        let p : Ok i ≡ Err (refusal w) = sym (read-written i r) ∙ ap decode_of q ∙ e in
        let z : ◌≡◌ {A = ℕ} 0 1 = cc in
        omega arith

    only : Outcome forms w → ((i : Instruction) → in_range i ≡ true → word_of i ≡ w → ⊥) → decode_of w ≡ Err (refusal w)
    only (inl (n, l, m, p)) k = absurd (k (instruction_in (form_at n) w) (in_range_read n w l m) (word_read n w l h m))
    only (inr p) k = p

-- an instruction is refused exactly when a field is past its range
pub refused-written : (i : Instruction) → (encode_of i ≡ Err FieldPastRange) ↔ (in_range i ≡ false)
unfolding encode_of
refused-written i = (turned_down (in_range i) (word_of i), λ h. ap (λ (b : Bool). pick b (Ok (word_of i)) (Err FieldPastRange)) h)
