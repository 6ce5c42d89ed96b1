-- What the program writes: lines, and where they stand in a buffer.
use Rattle.replies.specs.Reply.{number_of, is_done}
use Rattle.std.specs.Prelude.{ℕ, suc, List, [], ◌∷◌, ◌++◌, length}
use Rattle.bits.specs.Choice.{pick}
use Rattle.registers.specs.declared.State.{State}
use Rattle.machine.specs.Step.{step_of}
use Rattle.image.specs.Reading.{image_reply, state_of, words_of}
use Rattle.report.specs.Lines.{word_line, end_line, image_line, after, placed}

-- a line for each word stepped, up to the first refused one, and the count of those done; `done` were done before
unfoldable pub lines_of : State → ℕ → List ℕ → List (List ℕ)
lines_of s done [] = end_line done ∷ []
lines_of s done (w ∷ ws) =
    let t = step_of s w in
    word_line done w (number_of t.reply) t.state.flags
    ∷ pick (is_done t.reply) (lines_of t.state (suc done) ws) (end_line done ∷ [])

-- a refused image has one line only; `room` is the length of the list lent for its words
unfoldable pub transcript_of : ℕ → List ℕ → List (List ℕ)
transcript_of room image =
    pick (is_done (image_reply room image)) (lines_of (state_of image) 0 (words_of image)) (image_line (number_of (image_reply room image)) ∷ [])

-- ---- lines in a buffer, one after the other from `at` on; one that does not fit whole is left out

unfoldable pub after_all : List (List ℕ) → ℕ → ℕ → ℕ
after_all [] at room = at
after_all (l ∷ ls) at room = after_all ls (after l at room) room

unfoldable pub placed_all : List (List ℕ) → ℕ → List ℕ → List ℕ
placed_all [] at buffer = buffer
placed_all (l ∷ ls) at buffer = placed_all ls (after l at (length buffer)) (placed l at buffer)

-- the lines, one after the other
unfoldable pub text : List (List ℕ) → List ℕ
text [] = []
text (l ∷ ls) = l ++ text ls
