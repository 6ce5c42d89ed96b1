-- The sections of an image as data, in document 01's order. `rest` is what of the bytes is left to read, from a section's start on.
use Rattle.replies.specs.Reply.{Reply}
use Rattle.std.specs.Prelude.{ℕ, zero, suc, ◌+◌, ◌*◌, ◌/◌, Bool, true, false, not, ◌&&◌, ◌||◌, List, [], ◌∷◌, ltb, leb, eqb, length, take, drop, get_or, Result, Ok, Err}
use Rattle.bits.specs.Choice.{pick}
use Rattle.bits.specs.Search.{some}
use Rattle.octets.specs.Bytes.{value}
use Rattle.replies.specs.declared.Refusal.{Refusal}
use Rattle.replies.specs.declared.Refusal.TheVariants as R
use Rattle.registers.specs.Legal.{settings_allowed}
use Rattle.image.specs.declared.sections.Section.{Section as Name}
use Rattle.image.specs.declared.sections.Section.TheVariants as N
use Rattle.image.specs.declared.sections.Shape.{Shape}

-- the range of its count, the bytes of an item, whether a byte is allowed at a place of its content, and whether it may be missing
pub record Section : Type 0 where
  pub lowest : ℕ
  pub highest : ℕ
  pub item : ℕ
  pub allowed : ℕ → ℕ → Bool
  pub optional : Bool

abbrev pub any_byte : ℕ → ℕ → Bool
any_byte place b = true

abbrev pub zero_or_one : ℕ → ℕ → Bool
zero_or_one place b = leb b 1

-- VL/128, level, access, a byte each: the length by itself, the level beside it
unfoldable pub setting : ℕ → ℕ → ℕ → Bool
setting vl zero b = settings_allowed (128 * b) 0
setting vl (suc zero) b = settings_allowed vl b
setting vl (suc (suc place)) b = zero_or_one place b

-- settings, X, P, FFR, flags, words. VL stands in the settings. An old image has no FFR.
unfoldable pub sections : ℕ → List Section
sections vl =
    record { lowest = 3; highest = 3; item = 1; allowed = setting vl; optional = false }
    ∷ record { lowest = 31; highest = 31; item = 8; allowed = any_byte; optional = false }
    ∷ record { lowest = 16; highest = 16; item = vl / 64; allowed = any_byte; optional = false }
    ∷ record { lowest = 1; highest = 1; item = vl / 64; allowed = any_byte; optional = true }
    ∷ record { lowest = 4; highest = 4; item = 1; allowed = zero_or_one; optional = false }
    ∷ record { lowest = 0; highest = 4096; item = 4; allowed = any_byte; optional = false }
    ∷ []

-- section i; past the last one an empty one
abbrev pub section_at : List Section → ℕ → Section
section_at ss i = get_or ss i (record { lowest = 0; highest = 0; item = 0; allowed = any_byte; optional = false })

-- the place of each
abbrev pub place_of : Name → ℕ
place_of N.Settings = 0
place_of N.X = 1
place_of N.P = 2
place_of N.Ffr = 3
place_of N.Flags = 4
place_of N.Words = 5

-- a section's numbers
abbrev pub shape_of : Section → Shape
shape_of s = record { lowest = s.lowest; highest = s.highest; item = s.item; optional = s.optional }

-- ---- one section: a count in four bytes, then the content

abbrev pub count_of : List ℕ → ℕ
count_of rest = value (take 4 rest)

abbrev pub content_of : List ℕ → List ℕ
content_of rest = drop 4 rest

-- it is missing: where its count would stand stands that of the flags, 4
abbrev pub is_missing : Section → List ℕ → Bool
is_missing s rest = s.optional && eqb (count_of rest) 4

-- what follows it
abbrev pub after : Section → List ℕ → List ℕ
after s rest = pick (is_missing s rest) rest (drop (4 + count_of rest * s.item) rest)

-- one of the first n bytes of its content is not allowed
abbrev pub has_wrong : Section → List ℕ → ℕ → Bool
has_wrong s content n = some (λ i. not (s.allowed i (get_or content i 0))) n

-- count cut 5; one that is missing has no fault; count wrong 6, content cut 5, content wrong 6
unfoldable pub section_reply : Section → List ℕ → Reply
section_reply s rest =
    pick (ltb (length rest) 4) (Err R.ImageCut)
    (pick (is_missing s rest) (Ok tt)
    (pick (ltb (count_of rest) s.lowest || ltb s.highest (count_of rest)) (Err R.NotAllowed)
    (pick (ltb (length rest) (4 + count_of rest * s.item)) (Err R.ImageCut) (pick (has_wrong s (content_of rest) (count_of rest * s.item)) (Err R.NotAllowed) (Ok tt)))))

-- ---- all sections, one after the other

-- the first fault answers
unfoldable pub or_else : {A : Type 0} → Reply → Result A Refusal → Result A Refusal
or_else (Ok _) b = b
or_else (Err r) b = Err r

-- the first section at fault answers; bytes after the last section 7
unfoldable pub sections_reply : List Section → List ℕ → Reply
sections_reply [] rest = pick (ltb 0 (length rest)) (Err R.TrailingBytes) (Ok tt)
sections_reply (s ∷ ss) rest = or_else (section_reply s rest) (sections_reply ss (after s rest))

-- what is left where section i begins
unfoldable pub start_of : List Section → ℕ → List ℕ → List ℕ
start_of ss zero image = image
start_of ss (suc i) image = after (section_at ss i) (start_of ss i image)

-- how many bytes they have, each of so many items
unfoldable pub bytes_of : (Section → ℕ) → List Section → ℕ
bytes_of count [] = 0
bytes_of count (s ∷ ss) = 4 + count s * s.item + bytes_of count ss

-- how many bytes an image has: one without words, and four for each word
unfoldable pub image_length : ℕ → ℕ → ℕ
image_length vl words = bytes_of (λ s. s.lowest) (sections vl) + 4 * words

-- the most bytes that an image has
abbrev pub largest_image : ℕ
largest_image = image_length 2048 4096
