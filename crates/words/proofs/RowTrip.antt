-- Reading a word as a row and writing a row as a word undo each other.
use Rattle.std.specs.Prelude.{Result}
use Rattle.std.specs.Prelude.{Ok}
use Rattle.replies.specs.declared.Refusal.{Refusal}
use Prim.Native.Nat.{ℕ, zero, suc, ◌<◌, ◌/◌, ◌^◌}
use mathlib.Core.Path.{◌≡◌, refl, sym, ap, ap₂, ◌∙◌}
use mathlib.Core.Bool.{Bool, true, ◌&&◌}
use mathlib.Core.List.{List, [], ◌∷◌}
use native.Mathlib.Nat.{mod-one}
use native.Mathlib.Omega.{arith}
use lib.Dec.{ltb, eqb}
use lib.ListN.{length, get_or, drop}
use borrow.Author.Tests.{ltb-true}
use Rattle.words.specs.Layout.{Piece, span, slice, matches, cut, fits, place, up_to, Takes, FromFields, applied, from}
use Rattle.words.specs.Layout.Piece.{fixed, field}
use Rattle.words.specs.Words.{forms, form_at, numbers_of, form_of, fields_of, instruction_in, decode_of}
use Rattle.words.specs.Rows.{padded, row_of, row_layout, written_in, encoded_as, reply_to, row_after, decoded_reply, decoded_row, reply_with, word_after, encoded_reply, encoded_word}
use Rattle.words.specs.declared.Instruction.{Instruction}
use Rattle.words.proofs.Codec.{both, and_pair, matches-place, cut-place}
use Rattle.words.proofs.Placing.{span-up_to, row_formed}
use Rattle.words.proofs.Table.{finds}
use Rattle.words.proofs.Fields.{build_fields, read_back}
use Rattle.words.proofs.RoundTrip.{taken, encode-decode}
use Rattle.words.proofs.Rows.{row_encoded}

-- fields of no bits: the same words, and a zero for each
matches-up_to : (n : ℕ) (ps : List Piece) (w : ℕ) → matches (up_to n ps) w ≡ matches ps w
matches-up_to zero ps w = refl
matches-up_to (suc n) [] w = matches-up_to n [] w
matches-up_to (suc n) (fixed k v ∷ ps) w = ap₂ (λ (s : ℕ) (b : Bool). eqb (slice s k w) v && b) (span-up_to (suc n) ps) (matches-up_to (suc n) ps w)
matches-up_to (suc n) (field k ∷ ps) w = matches-up_to n ps w

cut-up_to : (n : ℕ) (ps : List Piece) (w : ℕ) → cut (up_to n ps) w ≡ padded n (cut ps w)
cut-up_to zero ps w = refl
cut-up_to (suc n) [] w = ap₂ (λ (x : ℕ) (xs : List ℕ). x ∷ xs) (mod-one (w / 2 ^ span (up_to n []))) (cut-up_to n [] w)
cut-up_to (suc n) (fixed k v ∷ ps) w = cut-up_to (suc n) ps w
cut-up_to (suc n) (field k ∷ ps) w = ap₂ (λ (s : ℕ) (xs : List ℕ). slice s k w ∷ xs) (span-up_to n ps) (cut-up_to n ps w)

-- nor do zeros after the fields change what is made of them
applied-padded : {A : Type 0} (n m : ℕ) (f : Takes n A) (xs : List ℕ) → applied n f (padded m xs) ≡ applied n f xs
applied-padded zero m f xs = refl
applied-padded (suc n) zero f xs = refl
applied-padded (suc n) (suc m) f [] = applied-padded n m (f 0) []
applied-padded (suc n) (suc m) f (x ∷ xs) = applied-padded n m (f x) xs

from-padded : {A : Type 0} (g : FromFields A) (m : ℕ) (xs : List ℕ) → from g (padded m xs) ≡ from g xs
from-padded g m xs = applied-padded g.count m g.takes xs

-- a word that is ours, read as a row, is written back as that word
pub word_back : (w : ℕ) (i : Instruction) (word : ℕ) → w < 2 ^ 32 → decode_of w ≡ Ok i → (encoded_reply (row_of i) ≡ 0) × (encoded_word (row_of i) word ≡ w)
word_back w i word h e =
    let p : encoded_as (row_of i) ≡ Ok w = row_encoded i ∙ encode-decode w i h e in
    (ap reply_with p, ap (λ (x : Result ℕ Refusal). word_after x word) p)

-- an instruction's row builds it
first-padded : (m : ℕ) (xs : List ℕ) → get_or (padded m xs) 0 0 ≡ get_or xs 0 0
first-padded zero xs = refl
first-padded (suc m) [] = refl
first-padded (suc m) (x ∷ xs) = refl

rest_padded : (m : ℕ) (xs : List ℕ) → drop 1 (padded (suc m) xs) ≡ padded m (drop 1 xs)
rest_padded m [] = refl
rest_padded m (x ∷ xs) = refl

pub row_instruction : (i : Instruction) → from (form_at (get_or (row_of i) 0 0)).build (drop 1 (row_of i)) ≡ i
row_instruction i =
    ap₂ (λ (n : ℕ) (xs : List ℕ). from (form_at n).build xs) (first-padded 9 (numbers_of i)) (rest_padded 8 (numbers_of i))
    ∙ from-padded (form_of i).build 8 (fields_of i) ∙ build_fields i

-- a row that fits is the row of what its word is read as
row_read : (n : ℕ) (xs : List ℕ) → n < length forms → from (form_at n).allowed xs ≡ true → fits (row_layout (form_at n)) xs ≡ true
    → (i : Instruction) × (decode_of (place (row_layout (form_at n)) xs) ≡ Ok i) × (row_of i ≡ n ∷ xs)
row_read n xs h a f =
    let ps : List Piece = (form_at n).layout in
    let w : ℕ = place (row_layout (form_at n)) xs in
    let m : matches ps w ≡ true = sym (matches-up_to 8 ps w) ∙ matches-place (row_layout (form_at n)) xs (row_formed n) f in
    let e : padded 8 (cut ps w) ≡ xs = sym (cut-up_to 8 ps w) ∙ cut-place (row_layout (form_at n)) xs (row_formed n) f in
    let b : from (form_at n).allowed (cut ps w) ≡ true = sym (from-padded (form_at n).allowed 8 (cut ps w)) ∙ ap (from (form_at n).allowed) e ∙ a in (
      instruction_in (form_at n) w,
      sym (finds n w h (and_pair b m)),
      ap (padded 9) (read_back n w h) ∙ ap (λ (ys : List ℕ). n ∷ ys) e,
    )

-- a row that is written as a word is read back as that row
pub row_back : (row : List ℕ) (w : ℕ) (old : List ℕ) → encoded_as row ≡ Ok w → (decoded_reply w ≡ 0) × (decoded_row w old ≡ row)
unfolding fits
row_back [] w old e =
    let z : ◌≡◌ {A = ℕ} 0 1 = cc in
    absurd (omega arith)
row_back (n ∷ xs) w old e =
    let (l, c) = taken (ltb n (length forms)) (written_in (form_at n) xs) w e in
    let (t, u) = taken (from (form_at n).allowed xs && fits (row_layout (form_at n)) xs) (Ok (place (row_layout (form_at n)) xs)) w c in
    let v : place (row_layout (form_at n)) xs ≡ w = cc in
    let (a, f) = both (from (form_at n).allowed xs) (fits (row_layout (form_at n)) xs) t in
    let (i, p, q) = row_read n xs (ltb-true n (length forms) l) a f in
    let d : decode_of w ≡ Ok i = ap decode_of (sym v) ∙ p in
    (ap reply_to d, ap (λ (x : Result Instruction Refusal). row_after x old) d ∙ q)
