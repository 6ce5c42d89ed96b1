-- Layouts: what a word's bits are, from its highest bit down, and what is read off that.
use Rattle.std.specs.Prelude.{ℕ, zero, suc, ◌+◌, ◌*◌, ◌-◌, ◌/◌, ◌%◌, ◌^◌, Bool, true, false, ◌&&◌, List, [], ◌∷◌, ltb, eqb, get_or, drop}

-- fixed WIDTH VALUE: bits that a form fixes; field WIDTH: bits that it leaves free
pub data Piece : Type 0 where
  fixed : ℕ → ℕ → Piece
  field : ℕ → Piece

-- the bits of a fixed word from bit lo up, all fixed
abbrev pub upper : ℕ → ℕ → Piece
upper lo word = fixed (32 - lo) (word / 2 ^ lo)

-- how many bits a layout has
abbrev pub span : List Piece → ℕ
span [] = 0
span (fixed n v ∷ ps) = n + span ps
span (field n ∷ ps) = n + span ps

-- the n bits of w from bit lo up
abbrev pub slice : ℕ → ℕ → ℕ → ℕ
slice lo n w = w / 2 ^ lo % 2 ^ n

-- all fixed bits of w are as the layout has them
abbrev pub matches : List Piece → ℕ → Bool
matches [] w = true
matches (fixed n v ∷ ps) w = eqb (slice (span ps) n w) v && matches ps w
matches (field n ∷ ps) w = matches ps w

-- the fields of w, from the highest down
abbrev pub cut : List Piece → ℕ → List ℕ
cut [] w = []
cut (fixed n v ∷ ps) w = cut ps w
cut (field n ∷ ps) w = slice (span ps) n w ∷ cut ps w

-- there is one value for each field, and each is within its field
unfoldable pub fits : List Piece → List ℕ → Bool
fits [] [] = true
fits [] (x ∷ xs) = false
fits (fixed n v ∷ ps) xs = fits ps xs
fits (field n ∷ ps) [] = false
fits (field n ∷ ps) (x ∷ xs) = ltb x (2 ^ n) && fits ps xs

-- the word with these fields
abbrev pub place : List Piece → List ℕ → ℕ
place [] xs = 0
place (fixed n v ∷ ps) xs = v * 2 ^ span ps + place ps xs
place (field n ∷ ps) [] = place ps []
place (field n ∷ ps) (x ∷ xs) = x * 2 ^ span ps + place ps xs

-- the layout with fields of no bits after it, up to n fields in all
abbrev pub up_to : ℕ → List Piece → List Piece
up_to zero ps = ps
up_to (suc n) [] = field 0 ∷ up_to n []
up_to (suc n) (fixed k v ∷ ps) = fixed k v ∷ up_to (suc n) ps
up_to (suc n) (field k ∷ ps) = field k ∷ up_to n ps

-- a function of n fields
abbrev pub Takes : ℕ → Type 0 → Type 0
Takes zero A = A
Takes (suc n) A = ℕ → Takes n A

-- what is made of a form's fields: a function of the first ones, or the same whatever they are
pub record FromFields (A : Type 0) : Type 0 where
  pub count : ℕ
  pub takes : Takes count A

abbrev pub given : {A : Type 0} (n : ℕ) → Takes n A → FromFields A
given n f = record { count = n; takes = f }

abbrev pub always : {A : Type 0} → A → FromFields A
always a = given 0 a

-- and what that is for the fields xs; one that is missing counts as 0
abbrev pub applied : {A : Type 0} (n : ℕ) → Takes n A → List ℕ → A
applied zero f xs = f
applied (suc n) f xs = applied n (f (get_or xs 0 0)) (drop 1 xs)

abbrev pub from : {A : Type 0} → FromFields A → List ℕ → A
from m xs = applied m.count m.takes xs
