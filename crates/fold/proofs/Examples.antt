-- The theorems' hypotheses are met: titles of no unit, of one vector and a unit, and with every row of the table, at VL 128; and the last at VL 2,048 too.
use mathlib.Core.List.{List, [], ◌∷◌}
use mathlib.Core.Path.{◌≡◌, refl, ◌∙◌}
use native.Mathlib.Omega.{arith}
use Prim.Native.Nat.{ℕ}
use lib.ListN.{replicate}
use Rattle.registers.specs.Legal.{is_length}
use Rattle.fold.specs.Table.{fold_unit}
use Rattle.fold.specs.Fold.{longest, fold_of}
use Rattle.fold.proofs.Titles.{fold_table, fold_any_list, fold_lengths, fold_twice}

abbrev places : List ℕ
places = replicate longest 0

empty : fold_of 128 places [] ≡ []
unfolding is_length
empty = fold_table 128 [] refl

-- "Amélie 2É", nine units: eight fill a vector of H elements
abbrev nine : List ℕ
nine = 0x41 ∷ 0x6D ∷ 0xE9 ∷ 0x6C ∷ 0x69 ∷ 0x65 ∷ 0x20 ∷ 0x32 ∷ 0xC9 ∷ []

one_vector_and_a_unit : fold_of 128 places nine ≡ 0x61 ∷ 0x6D ∷ 0x65 ∷ 0x6C ∷ 0x69 ∷ 0x65 ∷ 0x20 ∷ 0x32 ∷ 0x65 ∷ []
unfolding is_length fold_unit
one_vector_and_a_unit = fold_table 128 nine refl

-- A, Z and the first unit of each row, and what stays between them
abbrev each_row : List ℕ
each_row =
    0x41 ∷ 0x5A ∷ 0xC0 ∷ 0xE0 ∷ 0xC7 ∷ 0xE7 ∷ 0xC8 ∷ 0xE8 ∷ 0xCC ∷ 0xEC ∷ 0xD1 ∷ 0xF1 ∷ 0xD2 ∷ 0xF2 ∷ 0xD9 ∷ 0xF9 ∷ 0xDD ∷ 0xFD ∷ 0xFF ∷ 0xC6 ∷ 0xDF ∷ 0x100 ∷ 0xFFFF ∷ []

abbrev each_folded : List ℕ
each_folded =
    0x61 ∷ 0x7A ∷ 0x61 ∷ 0x61 ∷ 0x63 ∷ 0x63 ∷ 0x65 ∷ 0x65 ∷ 0x69 ∷ 0x69 ∷ 0x6E ∷ 0x6E ∷ 0x6F ∷ 0x6F ∷ 0x75 ∷ 0x75 ∷ 0x79 ∷ 0x79 ∷ 0x79 ∷ 0xC6 ∷ 0xDF ∷ 0x100 ∷ 0xFFFF ∷ []

by_the_table : fold_of 128 places each_row ≡ each_folded
unfolding is_length fold_unit
by_the_table = fold_table 128 each_row refl

-- the same at another vector length, with a list that is just as long as the title, and when it is folded again
other_length : fold_of 2048 places each_row ≡ each_folded
unfolding is_length
other_length = (fold_lengths 2048 128 each_row refl refl).1 ∙ by_the_table

other_list : fold_of 128 (replicate 23 7) each_row ≡ each_folded
other_list = (fold_any_list 128 (replicate 23 7) each_row (omega arith) (omega arith)).1 ∙ by_the_table

again : fold_of 2048 places (fold_of 128 places each_row) ≡ each_folded
unfolding is_length
again = fold_twice 128 2048 each_row refl ∙ by_the_table
