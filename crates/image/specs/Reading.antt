-- What reading an image answers. `room` is the length of the lent list.
use Rattle.replies.specs.Reply.{Reply, is_done}
use Rattle.std.specs.Prelude.{ℕ, ◌*◌, ◌/◌, Bool, false, List, [], ◌∷◌, ◌++◌, ltb, eqb, length, take, drop, get_or, replicate, Result, Ok, Err}
use Rattle.bits.specs.Bits.{test_bit}
use Rattle.bits.specs.Choice.{pick}
use Rattle.octets.specs.Bytes.{value, parts, over}
use Rattle.predicates.specs.declared.Flags.{Flags}
use Rattle.predicates.specs.declared.Predicate.{Predicate}
use Rattle.predicates.specs.Predicate.{pack}
use Rattle.replies.specs.declared.Refusal.{Refusal}
use Rattle.replies.specs.declared.Refusal.TheVariants as R
use Rattle.registers.specs.declared.State.{State}
use Rattle.registers.specs.State.{all_false, ffr, register_count, made}
use Rattle.image.specs.Image.{section, predicate_bytes}
use Rattle.image.specs.declared.Reading.{Reading}
pub use Rattle.image.specs.Sections.{Section, sections, section_at, count_of, content_of, is_missing, or_else, sections_reply, start_of, bytes_of}

-- ---- where an image's sections begin

-- the vector length that an image names in its settings
abbrev pub vl_of : List ℕ → ℕ
vl_of image = 128 * get_or (content_of image) 0 0

abbrev pub sections_of : List ℕ → List Section
sections_of image = sections (vl_of image)

abbrev pub x_at : List ℕ → List ℕ
x_at image = start_of (sections_of image) 1 image

abbrev pub predicates_at : List ℕ → List ℕ
predicates_at image = start_of (sections_of image) 2 image

abbrev pub ffr_at : List ℕ → List ℕ
ffr_at image = start_of (sections_of image) 3 image

abbrev pub flags_at : List ℕ → List ℕ
flags_at image = start_of (sections_of image) 4 image

abbrev pub words_at : List ℕ → List ℕ
words_at image = start_of (sections_of image) 5 image

-- an old image: its FFR section is missing
abbrev pub is_old : List ℕ → Bool
is_old image = is_missing (section_at (sections_of image) 3) (ffr_at image)

-- ---- the reply

-- the sections' reply, and last a lent list shorter than the count of words 8
unfoldable pub image_reply : ℕ → List ℕ → Reply
image_reply room image = or_else (sections_reply (sections_of image) image) (pick (ltb room (count_of (words_at image))) (Err R.BufferTooSmall) (Ok tt))

-- ---- what an image without a fault holds

unfoldable pub flags_in : List ℕ → Flags
flags_in content = record { n = eqb (get_or content 0 0) 1; z = eqb (get_or content 1 0) 1; c = eqb (get_or content 2 0) 1; v = eqb (get_or content 3 0) 1 }

-- bytes, lowest bits first
unfoldable pub predicate_of : List ℕ → Predicate
predicate_of bs = pack (test_bit (value bs))

-- FFR; in an old image all false
unfoldable pub ffr_in : List ℕ → Predicate
ffr_in image = pick (is_old image) all_false (predicate_of (take (vl_of image / 64) (content_of (ffr_at image))))

unfoldable pub state_of : List ℕ → State
state_of image =
    made (vl_of image) (get_or (content_of image) 1 0) (eqb (get_or (content_of image) 2 0) 1) (flags_in (content_of (flags_at image))) (parts value 8 31 (content_of (x_at image)))
    (parts predicate_of (vl_of image / 64) ffr (content_of (predicates_at image)) ++ (ffr_in image ∷ []))

unfoldable pub words_of : List ℕ → List ℕ
words_of image = parts value 4 (count_of (words_at image)) (content_of (words_at image))

-- what is written of an image that was read: a new one again, and an old one with an FFR all false after P
abbrev pub renewed : List ℕ → List ℕ
renewed image =
    let before = bytes_of (λ s. s.lowest) (take 3 (sections_of image)) in
    pick (is_old image) (take before image ++ (section (predicate_bytes (vl_of image / 64)) (all_false ∷ []) ++ drop before image)) image

-- ---- the answer

-- the state beside a refused reading: VL 128, all else zero
unfoldable pub blank : State
blank = made 128 0 false (record { n = false; z = false; c = false; v = false }) (replicate 31 0) (replicate register_count all_false)

unfoldable pub read_of : ℕ → List ℕ → Result Reading Refusal
read_of room image = or_else (image_reply room image) (Ok (record { state = state_of image; count = count_of (words_at image) }))

-- the lent list after a reading: the words, and past them what stood there; after a refusal as it was
unfoldable pub list_after : List ℕ → List ℕ → List ℕ
list_after image list = pick (is_done (image_reply (length list) image)) (over (words_of image) list) list
