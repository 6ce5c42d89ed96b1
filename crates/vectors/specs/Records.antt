-- What a stored record says, and when the library's answer agrees with it. `rest` is a record without its kind and its length.
use Rattle.replies.specs.Reply.{refusal_number, number_of}
use Rattle.replies.specs.declared.Refusal.{Refusal}
use Rattle.std.specs.Prelude.{ℕ, ◌+◌, ◌*◌, ◌≤◌, List, [], ◌≡◌, eqb, length, take, drop, get_or, replicate, Result, Ok, Err}
use Rattle.predicates.specs.PredTest.{flags_of}
use Rattle.registers.specs.declared.State.{State}
use Rattle.machine.specs.declared.Ran.{Ran}
use Rattle.machine.specs.Step.{run_of}
use Rattle.walk.specs.declared.Walked.{Walked}
use Rattle.walk.specs.Walk.{walk_of, whole_of}
use Rattle.shared.specs.declared.Stepped.{Stepped}
use Rattle.shared.specs.Shared.{kernel_of, step_of}
use Rattle.fold.specs.Fold.{longest, fold_of, fold_reply}
pub use Rattle.octets.specs.Bytes.{number_at}
use Rattle.octets.specs.Bytes.{value, parts}
use Rattle.image.specs.Image.{image_of}
use Rattle.image.specs.declared.Reading.{Reading}
use Rattle.image.specs.Reading.{state_of, words_of, read_of}
use Rattle.vectors.specs.declared.Kind.{Kind}
use Rattle.vectors.specs.declared.Kind.TheVariants.{Run, Image, Walk, Step, Title}

-- ---- a block: a length in four bytes, and then so many bytes

abbrev pub block : List ℕ → List ℕ
block bs = take (value (take 4 bs)) (drop 4 bs)

abbrev pub past_block : List ℕ → List ℕ
past_block bs = drop (value (take 4 bs)) (drop 4 bs)

-- ---- an image that is read without a fault

-- the reply's number: 0, or the refusal's
abbrev pub reply_in : {A : Type 0} → Result A Refusal → ℕ
reply_in (Ok _) = 0
reply_in (Err r) = refusal_number r

abbrev pub Whole : List ℕ → Type 0
Whole image = reply_in (read_of 4096 image) ≡ 0

-- a reading of one: the state, and the words at the front of a list
pub record Reads (image list : List ℕ) (r : Reading) : Type 0 where
  pub whole : Whole image
  pub state : r.state ≡ state_of image
  pub room : r.count ≤ length list
  pub words : take r.count list ≡ words_of image

-- ---- a run: an image; reply (1), refused (1), done (4), the image after

abbrev pub ran_of : List ℕ → Ran
ran_of rest = run_of (state_of (block rest)) (words_of (block rest))

pub record RunAgrees (rest : List ℕ) : Type 0 where
  pub whole : Whole (block rest)
  pub reply : number_of (ran_of rest).reply ≡ get_or (past_block rest) 0 0
  pub refused : number_of (ran_of rest).refused ≡ get_or (past_block rest) 1 0
  pub done : (ran_of rest).done ≡ number_at 2 4 (past_block rest)
  pub after : image_of (ran_of rest).state [] ≡ block (drop 6 (past_block rest))

-- ---- an image: reply (1), the image, the image that it is written back as

pub record ImageAgrees (rest : List ℕ) : Type 0 where
  pub reply : reply_in (read_of 4096 (block (drop 1 rest))) ≡ get_or rest 0 0
  pub again : Whole (block (drop 1 rest)) → image_of (state_of (block (drop 1 rest))) (words_of (block (drop 1 rest))) ≡ block (past_block (drop 1 rest))

-- ---- a walk: an image; size, n, m, d, k (1 each), places (4), budget (8), reply (1), count (8), visited (4), the image after, the list after

abbrev pub walked_of : List ℕ → State → List ℕ → Walked
walked_of asked s list = walk_of (get_or asked 0 0) (get_or asked 1 0) (get_or asked 2 0) (get_or asked 3 0) (get_or asked 4 0) (number_at 9 8 asked) s list

abbrev pub list_of : List ℕ → State → List ℕ → List ℕ
list_of asked s list = (whole_of (get_or asked 0 0) (get_or asked 1 0) (get_or asked 2 0) (get_or asked 3 0) (get_or asked 4 0) (number_at 9 8 asked) s list).list

-- a walk of a state with a list, held to what follows the image
pub record Walks (s : State) (asked list : List ℕ) : Type 0 where
  pub reply : number_of (walked_of asked s list).reply ≡ get_or asked 17 0
  pub count : (walked_of asked s list).count ≡ number_at 18 8 asked
  pub visited : (walked_of asked s list).visited ≡ number_at 26 4 asked
  pub after : image_of (walked_of asked s list).state [] ≡ block (drop 30 asked)
  pub places : list_of asked s list ≡ parts value 8 (length list) (past_block (drop 30 asked))

-- the list before
abbrev pub unset : ℕ → List ℕ
unset places = replicate places 0xFFFF_FFFF_FFFF_FFFF

pub record WalkAgrees (rest : List ℕ) : Type 0 where
  pub whole : Whole (block rest)
  pub walks : Walks (state_of (block rest)) (past_block rest) (unset (number_at 5 4 (past_block rest)))

-- ---- a step of one of two kernels: an image with a word; second (1), the second's flags (1), reply (1), the second's flags after (1), the image after

-- a step with this word, of a state and the flags that stand beside it, for the kernel that is asked
abbrev pub turn_of : List ℕ → State → ℕ → Stepped
turn_of asked s word = step_of (kernel_of (eqb (get_or asked 0 0) 1)) (record { state = s; second = flags_of (get_or asked 1 0) }) word

-- the word is the image's first, or 0
abbrev pub stepped_of : List ℕ → Stepped
stepped_of rest = turn_of (past_block rest) (state_of (block rest)) (get_or (words_of (block rest)) 0 0)

pub record StepAgrees (rest : List ℕ) : Type 0 where
  pub whole : Whole (block rest)
  pub reply : number_of (stepped_of rest).reply ≡ get_or (past_block rest) 2 0
  pub second : (stepped_of rest).shared.second ≡ flags_of (get_or (past_block rest) 3 0)
  pub after : image_of (stepped_of rest).shared.state [] ≡ block (drop 4 (past_block rest))

-- ---- a title: vl (8), how many units (4), reply (1), the title and the title after (2 bytes a unit)

-- a title of so many units, folded as the record says
pub record TitleFolds (rest : List ℕ) (units : ℕ) : Type 0 where
  pub reply : number_of (fold_reply (number_at 0 8 rest) units) ≡ get_or rest 12 0
  pub after : fold_of (number_at 0 8 rest) (replicate longest 0) (parts value 2 units (drop 13 rest)) ≡ parts value 2 units (drop (units * 2 + 13) rest)

abbrev pub TitleAgrees : List ℕ → Type 0
TitleAgrees rest = TitleFolds rest (number_at 8 4 rest)

-- ---- a record, by its kind

abbrev pub kind_number : Kind → ℕ
kind_number Run = 1
kind_number Image = 2
kind_number Walk = 3
kind_number Step = 4
kind_number Title = 5

pub record Agrees (kind : ℕ) (rest : List ℕ) : Type 0 where
  pub run : kind ≡ 1 → RunAgrees rest
  pub image : kind ≡ 2 → ImageAgrees rest
  pub walk : kind ≡ 3 → WalkAgrees rest
  pub step : kind ≡ 4 → StepAgrees rest
  pub title : kind ≡ 5 → TitleAgrees rest
