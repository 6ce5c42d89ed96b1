-- What a 16-bit unit of a title becomes.
use Rattle.std.specs.Prelude.{ℕ, ◌+◌, Bool, ◌&&◌, List, [], ◌∷◌, leb}
use Rattle.bits.specs.Choice.{pick}

-- the units from `first` to `last` become `letter`
pub record Row : Type 0 where
  pub first : ℕ
  pub last : ℕ
  pub letter : ℕ

abbrev row : ℕ → ℕ → ℕ → Row
row first last letter = record { first = first; last = last; letter = letter }

abbrev pub within : ℕ → ℕ → ℕ → Bool
within first last u = leb first u && leb u last

-- C0–C5 and E0–E5 become a; C7, E7 c; C8–CB, E8–EB e; CC–CF, EC–EF i; D1, F1 n; D2–D6, F2–F6 o; D9–DC, F9–FC u; DD, FD, FF y
abbrev pub rows : List Row
rows =
    row 0xC0 0xC5 0x61 ∷ row 0xE0 0xE5 0x61 ∷
    row 0xC7 0xC7 0x63 ∷ row 0xE7 0xE7 0x63 ∷
    row 0xC8 0xCB 0x65 ∷ row 0xE8 0xEB 0x65 ∷
    row 0xCC 0xCF 0x69 ∷ row 0xEC 0xEF 0x69 ∷
    row 0xD1 0xD1 0x6E ∷ row 0xF1 0xF1 0x6E ∷
    row 0xD2 0xD6 0x6F ∷ row 0xF2 0xF6 0x6F ∷
    row 0xD9 0xDC 0x75 ∷ row 0xF9 0xFC 0x75 ∷
    row 0xDD 0xDD 0x79 ∷ row 0xFD 0xFD 0x79 ∷ row 0xFF 0xFF 0x79 ∷ []

-- the letter of the row that has the unit; all else stays
abbrev pub letter_in : List Row → ℕ → ℕ
letter_in [] u = u
letter_in (r ∷ rs) u = pick (within r.first r.last u) r.letter (letter_in rs u)

-- A to Z become small
unfoldable pub fold_unit : ℕ → ℕ
fold_unit u = pick (within 65 90 u) (u + 32) (letter_in rows u)
