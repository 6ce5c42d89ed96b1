-- Instructions as rows of nine numbers, and how a row is written as a word.
use Rattle.std.specs.Prelude.{Result}
use Rattle.std.specs.Prelude.{Ok}
use Rattle.replies.specs.declared.Refusal.{Refusal}
use Rattle.replies.specs.Reply.{refusal_number}
use Rattle.std.specs.Prelude.{Err}
use Rattle.std.specs.Prelude.{ℕ, zero, suc, ◌&&◌, List, [], ◌∷◌, ltb, length, get_or, drop}
use Rattle.bits.specs.Choice.{pick}
use Rattle.replies.specs.declared.Refusal.TheVariants.{FieldPastRange}
use Rattle.words.specs.Layout.{Piece, fits, place, up_to, from}
use Rattle.words.specs.Words.{Form, forms, form_at, numbers_of, decode_of}
use Rattle.words.specs.declared.Instruction.{Instruction}

-- zeros after the numbers xs, up to n
abbrev pub padded : ℕ → List ℕ → List ℕ
padded zero xs = xs
padded (suc n) [] = 0 ∷ padded n []
padded (suc n) (x ∷ xs) = x ∷ padded n xs

-- the row of an instruction: its form, its fields from the highest bit down, zeros
abbrev pub row_of : Instruction → List ℕ
row_of i = padded 9 (numbers_of i)

-- a form's layout as a row has it: eight fields, those after the form's own of no bits
abbrev pub row_layout : Form → List Piece
row_layout f = up_to 8 f.layout

-- how eight numbers are written as the fields of a form
abbrev pub written_in : Form → List ℕ → Result ℕ Refusal
written_in f xs = pick (from f.allowed xs && fits (row_layout f) xs) (Ok (place (row_layout f) xs)) (Err FieldPastRange)

-- how a row is written: as the form that its first number is, if it is one of the table
abbrev pub encoded_as : List ℕ → Result ℕ Refusal
encoded_as row = pick (ltb (get_or row 0 0) (length forms)) (written_in (form_at (get_or row 0 0)) (drop 1 row)) (Err FieldPastRange)

-- the reply to a word, and the row that it leaves: the instruction's, or for a refused word the row as it was
abbrev pub reply_to : Result Instruction Refusal → ℕ
reply_to (Ok i) = 0
reply_to (Err r) = refusal_number r

abbrev pub row_after : Result Instruction Refusal → List ℕ → List ℕ
row_after (Ok i) row = row_of i
row_after (Err r) row = row

abbrev pub decoded_reply : ℕ → ℕ
decoded_reply w = reply_to (decode_of w)

abbrev pub decoded_row : ℕ → List ℕ → List ℕ
decoded_row w row = row_after (decode_of w) row

-- the reply to a row, and the word that it leaves: the row's, or for a refused row what stood there
abbrev pub reply_with : Result ℕ Refusal → ℕ
reply_with (Ok w) = 0
reply_with (Err r) = refusal_number r

abbrev pub word_after : Result ℕ Refusal → ℕ → ℕ
word_after (Ok w) word = w
word_after (Err r) word = word

abbrev pub encoded_reply : List ℕ → ℕ
encoded_reply row = reply_with (encoded_as row)

abbrev pub encoded_word : List ℕ → ℕ → ℕ
encoded_word row word = word_after (encoded_as row) word
