-- A word placed number by number, and the table of places.
use Rattle.std.specs.Prelude.{Ok, Err}
use Prim.Native.Nat.{ℕ, zero, suc, ◌+◌, ◌*◌, ◌<◌, ◌≤◌, ◌^◌}
use mathlib.Core.Path.{◌≡◌, refl, sym, ap, ◌∙◌}
use mathlib.Core.Bool.{Bool, true, false, ◌&&◌}
use mathlib.Core.List.{List, [], ◌∷◌}
use native.Mathlib.Omega.{arith}
use native.Mathlib.Nat.{zero-add}
use lib.Dec.{ltb}
use lib.ListN.{length, get_or, drop}
use borrow.Author.Tests.{lt-ltb}
use Rattle.bits.specs.Choice.{pick}
use Rattle.replies.specs.declared.Refusal.TheVariants.{FieldPastRange}
use Rattle.words.specs.Layout.{Piece, span, fits, place, up_to, from}
use Rattle.words.specs.Layout.Piece.{fixed, field}
use Rattle.words.specs.Words.{Form, forms, form_at}
use Rattle.words.specs.Rows.{row_layout, written_in, encoded_as}
use Rattle.words.specs.Inside.{fields_in, places_of}
use Rattle.words.specs.declared.write.Places.{Places}
use Rattle.words.proofs.Codec.{well_formed, place-lt}
use Rattle.words.proofs.Table.{word_wide, well_formed_lem}

-- the numbers xs, each from its field's lowest bit up
unfoldable pub sum : List (ℕ × ℕ) → List ℕ → ℕ
sum [] xs = 0
sum (f ∷ fs) [] = 0
sum (f ∷ fs) (x ∷ xs) = x * 2 ^ f.0 + sum fs xs

-- one number for each field, within its width
unfoldable pub within : List (ℕ × ℕ) → List ℕ → Bool
within [] [] = true
within [] (x ∷ xs) = false
within (f ∷ fs) [] = false
within (f ∷ fs) (x ∷ xs) = ltb x (2 ^ f.1) && within fs xs

within-fits : (ps : List Piece) (xs : List ℕ) → within (fields_in ps) xs ≡ fits ps xs
unfolding within fits
within-fits [] [] = refl
within-fits [] (x ∷ xs) = refl
within-fits (fixed n v ∷ ps) xs = within-fits ps xs
within-fits (field n ∷ ps) [] = refl
within-fits (field n ∷ ps) (x ∷ xs) = ap (λ (b : Bool). ltb x (2 ^ n) && b) (within-fits ps xs)

same_more : (a b c d : ℕ) → b ≡ c + d → a + b ≡ a + c + d
same_more a b c d h = omega arith

other_more : (a b c d : ℕ) → b ≡ c + d → a + b ≡ c + (a + d)
other_more a b c d h = omega arith

place_sum : (ps : List Piece) (xs : List ℕ) → place ps xs ≡ place ps [] + sum (fields_in ps) xs
unfolding sum
place_sum [] xs = refl
place_sum (fixed n v ∷ ps) xs = same_more (v * 2 ^ span ps) (place ps xs) (place ps []) (sum (fields_in ps) xs) (place_sum ps xs)
place_sum (field n ∷ ps) [] = omega arith
place_sum (field n ∷ ps) (x ∷ xs) = other_more (x * 2 ^ span ps) (place ps xs) (place ps []) (sum (fields_in ps) xs) (place_sum ps xs)

-- fields are within a word
abbrev pub Small : List (ℕ × ℕ) → Type 0
Small [] = Unit {0}
Small (f ∷ fs) = (f.0 ≤ 32) × (f.1 < 64) × Small fs

small : (ps : List Piece) → span ps ≤ 32 → Small (fields_in ps)
small [] h = tt
small (fixed n v ∷ ps) h = small ps (omega arith)
small (field n ∷ ps) h = (omega arith, omega arith, small ps (omega arith))

-- fields of no bits change neither the width nor the fixed bits
pub span-up_to : (n : ℕ) (ps : List Piece) → span (up_to n ps) ≡ span ps
span-up_to zero ps = refl
span-up_to (suc n) [] = zero-add (span (up_to n [])) ∙ span-up_to n []
span-up_to (suc n) (fixed k v ∷ ps) = ap (λ (m : ℕ). k + m) (span-up_to (suc n) ps)
span-up_to (suc n) (field k ∷ ps) = ap (λ (m : ℕ). k + m) (span-up_to n ps)

formed_up_to : (n : ℕ) (ps : List Piece) → well_formed (up_to n ps) ≡ well_formed ps
formed_up_to zero ps = refl
formed_up_to (suc n) [] = formed_up_to n []
formed_up_to (suc n) (fixed k v ∷ ps) = ap (λ (b : Bool). ltb v (2 ^ k) && b) (formed_up_to (suc n) ps)
formed_up_to (suc n) (field k ∷ ps) = formed_up_to n ps

row-wide : (n : ℕ) → span (row_layout (form_at n)) ≡ 32
row-wide n = span-up_to 8 (form_at n).layout ∙ word_wide n

pub row_formed : (n : ℕ) → well_formed (row_layout (form_at n)) ≡ true
row_formed n = formed_up_to 8 (form_at n).layout ∙ well_formed_lem n

-- what the loop has of the table
module _ (n : ℕ) {p : Places} (e : p ≡ places_of (row_layout (form_at n))) where
  abbrev ps : List Piece
  ps = row_layout (form_at n)

  pub start_small : Small p.fields
  start_small =
      let s : span ps ≡ 32 = row-wide n in
      rw e (small ps (omega arith))

  pub start_sum : (xs : List ℕ) → p.fixed + sum p.fields xs ≡ place ps xs
  start_sum xs = ap (λ (x : Places). x.fixed + sum x.fields xs) e ∙ sym (place_sum ps xs)

  pub start_within : (xs : List ℕ) → within p.fields xs ≡ fits ps xs
  start_within xs = ap (λ (x : Places). within x.fields xs) e ∙ within-fits ps xs

-- a turn of the loop, at the field f and the number x
module _ {fs gs : List (ℕ × ℕ)} {xs ys : List ℕ} {f : ℕ × ℕ} {x : ℕ} (h : fs ≡ f ∷ gs) (l : xs ≡ x ∷ ys) where
  pub small_first : Small fs → (f.0 ≤ 32) × (f.1 < 64)
  small_first s =
      let t : Small (f ∷ gs) = rw h at s in
      (t.0, t.1)

  pub small_rest : Small fs → Small gs
  small_rest s =
      let t : Small (f ∷ gs) = rw h at s in
      t.2

  pub more_sum : (word : ℕ) {y t : ℕ} → word + sum fs xs ≡ t → y ≡ x * 2 ^ f.0 → word + y + sum gs ys ≡ t
  unfolding sum
  more_sum word i e =
      let j : word + (x * 2 ^ f.0 + sum gs ys) ≡ _ = rw (h, l) at i in
      omega arith

  pub more_within : {b t : Bool} → within fs xs ≡ t → b ≡ ltb x (2 ^ f.1) → b ≡ true → within gs ys ≡ t
  unfolding within
  more_within i e q = sym (rw (h, l) (ap (λ (a : Bool). a && within gs ys) (sym e ∙ q))) ∙ i

  pub too_wide : {b t : Bool} → within fs xs ≡ t → b ≡ ltb x (2 ^ f.1) → b ≡ false → t ≡ false
  unfolding within
  too_wide i e q = sym i ∙ rw (h, l) (ap (λ (a : Bool). a && within gs ys) (sym e ∙ q))

-- its end, where no number is left
pub end_sum : (fs : List (ℕ × ℕ)) (xs : List ℕ) (word : ℕ) {t : ℕ} → length fs ≡ length xs → length xs ≡ 0 → word + sum fs xs ≡ t → word ≡ t
unfolding sum
end_sum [] xs word h l i = omega arith
end_sum (f ∷ fs) xs word h l i = absurd (omega arith)

pub end_within : (fs : List (ℕ × ℕ)) (xs : List ℕ) {t : Bool} → length fs ≡ length xs → length xs ≡ 0 → within fs xs ≡ t → t ≡ true
unfolding within
end_within [] [] h l i = sym i
end_within [] (x ∷ xs) h l i = absurd (omega arith)
end_within (f ∷ fs) xs h l i = absurd (omega arith)

-- the row's word, or the refusal, by its first number
module _ (row : List ℕ) {n : ℕ} (r : n ≡ get_or row 0 0) where
  abbrev f : Form
  f = form_at n

  abbrev xs : List ℕ
  xs = drop 1 row

  by_form : {b : Bool} → ltb n (length forms) ≡ b → encoded_as row ≡ pick b (written_in f xs) (Err FieldPastRange)
  by_form h =
      ap (λ (m : ℕ). pick (ltb m (length forms)) (written_in (form_at m) xs) (Err FieldPastRange)) (sym r)
      ∙ ap (λ (b : Bool). pick b (written_in f xs) (Err FieldPastRange)) h

  module _ {a : Bool} (e : a ≡ from f.allowed xs) (h : n < length forms) where
    by_fields : {b : Bool} → (a && fits (row_layout f) xs) ≡ b → encoded_as row ≡ pick b (Ok (place (row_layout f) xs)) (Err FieldPastRange)
    by_fields q =
        by_form (lt-ltb n (length forms) h)
        ∙ ap (λ (b : Bool). pick b (Ok (place (row_layout f) xs)) (Err FieldPastRange)) (ap (λ (b : Bool). b && fits (row_layout f) xs) (sym e) ∙ q)

    module _ (q : a ≡ true) where
      pub row-refused : fits (row_layout f) xs ≡ false → Err FieldPastRange ≡ encoded_as row
      row-refused g = sym (by_fields (ap (λ (b : Bool). b && fits (row_layout f) xs) q ∙ g))

      pub row_written : {w : ℕ} → fits (row_layout f) xs ≡ true → w ≡ place (row_layout f) xs → Ok w ≡ encoded_as row
      row_written g p = ap Ok p ∙ sym (by_fields (ap (λ (b : Bool). b && fits (row_layout f) xs) q ∙ g))

-- a word that is placed whole has 32 bits
pub row_lt : (n : ℕ) (xs : List ℕ) {w : ℕ} → w ≡ place (row_layout (form_at n)) xs → fits (row_layout (form_at n)) xs ≡ true → w < 2 ^ 32
row_lt n xs {w} e f =
    let b : place (row_layout (form_at n)) xs < 2 ^ span (row_layout (form_at n)) = place-lt (row_layout (form_at n)) xs (row_formed n) f in
    rw (e, sym (ap (λ (m : ℕ). 2 ^ m) (row-wide n))) b
