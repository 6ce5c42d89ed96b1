-- For private functions alone: the mask of a layout's fixed bits, and a layout as the code's table keeps it. No public contract cites these.
use Rattle.std.specs.Prelude.{ℕ, ◌+◌, ◌*◌, ◌-◌, ◌^◌, List, [], ◌∷◌}
use Rattle.words.specs.Layout.{Piece, span, place}
use Rattle.words.specs.Layout.Piece.{fixed, field}
use Rattle.words.specs.declared.write.Places.{Places}

-- a word whose bits are set where a layout fixes them
abbrev pub mask_of : List Piece → ℕ
mask_of [] = 0
mask_of (fixed n v ∷ ps) = (2 ^ n - 1) * 2 ^ span ps + mask_of ps
mask_of (field n ∷ ps) = mask_of ps

-- the width of each field, from the highest down, and each field's lowest bit and width
abbrev pub widths : List Piece → List ℕ
widths [] = []
widths (fixed n v ∷ ps) = widths ps
widths (field n ∷ ps) = n ∷ widths ps

abbrev pub fields_in : List Piece → List (ℕ × ℕ)
fields_in [] = []
fields_in (fixed n v ∷ ps) = fields_in ps
fields_in (field n ∷ ps) = (span ps, n) ∷ fields_in ps

-- what the table of the code has of a layout
abbrev pub places_of : List Piece → Places
places_of ps = record { fixed = place ps []; fields = fields_in ps }
