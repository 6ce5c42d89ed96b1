-- The image of document 01's example and its old image, written, read and written again: the hypotheses of the round trips are met. Assumes nothing.
use Rattle.std.specs.Prelude.{Ok, Err}
use mathlib.Core.Bool.{Bool, true, false, ◌&&◌}
use mathlib.Core.List.{List, [], ◌∷◌, ◌++◌}
use mathlib.Core.Path.{◌≡◌, refl, ap, ◌∙◌}
use Prim.Native.Nat.{ℕ, zero, suc, ◌^◌, ◌≤◌, ◌<◌}
use native.Mathlib.Omega.{arith}
use lib.Dec.{ltb, leb, lit<, lit≤}
use lib.ListN.{get_or, length, replicate, get_or-replicate, length-replicate}
use borrow.Author.Tests.{ltb-true}
use Rattle.bits.specs.Bits.{test_bit, number}
use Rattle.bits.specs.Search.{some}
use Rattle.bits.proofs.Searches.{never, some_no}
use Rattle.predicates.specs.Predicate.{bit_at, pack, predicate_length, has_bit_from}
use Rattle.predicates.proofs.Words.{pack-bit, pack_words}
use Rattle.replies.specs.declared.Refusal.TheVariants as R
use Rattle.registers.specs.declared.State.{State}
use Rattle.registers.specs.Legal.{is_length, legal}
use Rattle.registers.specs.State.{all_false, ffr, made, read_p}
use Rattle.registers.proofs.Legality.{sized_all, legal_sized, has_legal, made_counts}
use Rattle.registers.proofs.Registers.{all_length}
use Rattle.octets.specs.Bytes.{le, value, joined, over, AreBytes}
use Rattle.image.specs.Sections.{setting, sections, section_at, section_reply, or_else, sections_reply, start_of, bytes_of, largest_image}
use Rattle.image.specs.Image.{section, predicate_bytes, image_of}
use Rattle.image.specs.Reading.{sections_of, is_old, image_reply, state_of, words_of, renewed, read_of, list_after}
use Rattle.image.specs.Held.{Held}
use Rattle.image.proofs.Readings.{read_old, ffr-count}
use Rattle.image.proofs.RoundTrips.{read-written, list_written, written_new, written_read, shortest, longest, longest_is}

-- VL 128, level 1, access on, X1 = 10, X2 = 13, all else zero
abbrev pub state : State
state = made 128 1 true (record { n = false; z = false; c = false; v = false }) (0 ∷ 10 ∷ 13 ∷ replicate 28 0) (replicate 17 all_false)

-- 25A21C20, 2519C401, 00000000
abbrev pub words : List ℕ
words = 631381024 ∷ 622445569 ∷ 0 ∷ []

-- its bytes up to FFR
abbrev front : List ℕ
front =
    3 ∷ 0 ∷ 0 ∷ 0 ∷ 1 ∷ 1 ∷ 1 ∷ 31 ∷ 0 ∷ 0 ∷ 0 ∷ replicate 8 0
    ++ (10 ∷ replicate 7 0 ++ (13 ∷ replicate 7 0 ++ (replicate 224 0 ++ (16 ∷ 0 ∷ 0 ∷ 0 ∷ replicate 32 0))))

-- its bytes from the flags on
abbrev end : List ℕ
end = 4 ∷ 0 ∷ 0 ∷ 0 ∷ 0 ∷ 0 ∷ 0 ∷ 0 ∷ 3 ∷ 0 ∷ 0 ∷ 0 ∷ 32 ∷ 28 ∷ 162 ∷ 37 ∷ 1 ∷ 196 ∷ 25 ∷ 37 ∷ 0 ∷ 0 ∷ 0 ∷ 0 ∷ []

-- its 325 bytes
abbrev pub image : List ℕ
image = front ++ (1 ∷ 0 ∷ 0 ∷ 0 ∷ 0 ∷ 0 ∷ end)

-- the 319 bytes of its old image, which has no FFR
abbrev pub old : List ℕ
old = front ++ end

pub image_bytes : image_of state words ≡ image
unfolding image_of section predicate_bytes joined le number bit_at pack test_bit
image_bytes = refl

-- ---- what the round trips ask for

all_below : ℕ → List ℕ → Bool
all_below m [] = true
all_below m (x ∷ xs) = ltb x m && all_below m xs

both : (a b : Bool) → (a && b) ≡ true → (a ≡ true) × (b ≡ true)
both true b e = (refl, e)
both false b e = never e refl

below_all : (m : ℕ) (xs : List ℕ) → 0 < m → all_below m xs ≡ true → (i : ℕ) → get_or xs i 0 < m
unfolding all_below
below_all m [] h e i = h
below_all m (x ∷ xs) h e zero = ltb-true x m (both (ltb x m) (all_below m xs) e).0
below_all m (x ∷ xs) h e (suc i) = below_all m xs h (both (ltb x m) (all_below m xs) e).1 i

none-false : (r : ℕ) → r < 17 → read_p state r ≡ all_false
none-false r h = get_or-replicate 17 r all_false all_false h

pub held : Held state
unfolding all_below
held = record { xs = below_all (2 ^ 64) state.x (lit< tt) refl; ps = λ r h. rw (none-false r h) (pack_words _) }

and-false : (a : Bool) → (a && false) ≡ false
and-false true = refl
and-false false = refl

no_bit : has_bit_from (predicate_length 128) all_false ≡ false
unfolding has_bit_from
no_bit = some_no _ 256 (λ b l. ap (λ (x : Bool). leb (predicate_length 128) b && x) (pack-bit (λ i. false) b l) ∙ and-false (leb (predicate_length 128) b))

pub lawful : legal state ≡ true
unfolding is_length
lawful = has_legal state (record { sized = record { xs = refl; ps = refl; cs = all_length 128 (replicate 17 all_false) refl }; len = refl; level = lit≤ tt; bits = λ r h. rw (none-false r h) no_bit; counts = made_counts state refl refl })

pub bytes : AreBytes image
unfolding all_below
bytes = below_all 256 image (lit< tt) refl

pub reply : image_reply 3 image ≡ Ok tt
unfolding image_reply sections setting sections_reply section_reply start_of or_else is_length some value
reply = refl

pub is_new : is_old image ≡ false
unfolding sections start_of value
is_new = refl

pub old_bytes : AreBytes old
unfolding all_below
old_bytes = below_all 256 old (lit< tt) refl

pub old_reply : image_reply 3 old ≡ Ok tt
unfolding image_reply sections setting sections_reply section_reply start_of or_else is_length some value
old_reply = refl

pub is_old_lem : is_old old ≡ true
unfolding sections start_of value
is_old_lem = refl

-- ---- the round trips

pub read_back : read_of 3 image ≡ Ok (record { state = state; count = 3 })
unfolding all_below
read_back = rw image_bytes at (read-written state words held lawful (lit≤ tt) (below_all (2 ^ 32) words (lit< tt) refl) 3 (lit≤ tt))

pub list_back : list_after image (9 ∷ 9 ∷ 9 ∷ 9 ∷ 9 ∷ []) ≡ words ++ (9 ∷ 9 ∷ [])
unfolding all_below over
list_back = rw image_bytes at (list_written state words held lawful (lit≤ tt) (below_all (2 ^ 32) words (lit< tt) refl) (9 ∷ 9 ∷ 9 ∷ 9 ∷ 9 ∷ []) (lit≤ tt))

pub written_again : image_of (state_of image) (words_of image) ≡ image
written_again = written_new image 3 bytes reply is_new

-- of the old image the new one
pub renewed_is : renewed old ≡ image
unfolding sections bytes_of start_of value section predicate_bytes joined le number bit_at pack test_bit
renewed_is = refl

pub old_written : image_of (state_of old) (words_of old) ≡ image
old_written = written_read old 3 old_bytes old_reply ∙ renewed_is

pub old_read : read_p (state_of old) ffr ≡ all_false
old_read = read_old old is_old_lem

-- ---- another count at FFR's place

abbrev odd : List ℕ
odd = front ++ (2 ∷ 0 ∷ 0 ∷ 0 ∷ end)

pub odd_refused : image_reply 3 odd ≡ Err R.NotAllowed
unfolding sections setting section_reply start_of is_length some value
odd_refused = ffr-count 3 odd earlier (lit≤ tt) (λ e. omega arith) (λ e. omega arith)
  where
    earlier : (j : ℕ) → j < 3 → section_reply (section_at (sections_of odd) j) (start_of (sections_of odd) j odd) ≡ Ok tt
    earlier zero l = refl
    earlier (suc zero) l = refl
    earlier (suc (suc zero)) l = refl
    earlier (suc (suc (suc j))) l = absurd (omega arith)

-- ---- how long images are

pub shortest_image : length (image_of state []) ≡ 313
shortest_image = shortest state (sized_all state (legal_sized state lawful)) refl

pub no_longer : length (image_of state words) ≤ largest_image
no_longer = longest state words lawful (lit≤ tt)

-- the same registers at 2,048 bits, with 4,096 words
abbrev widest : State
widest = made 2048 3 true state.flags state.x state.p

pub longest_image : length (image_of widest (replicate 4096 0)) ≡ largest_image
longest_image =
    longest_is widest (replicate 4096 0) (sized_all widest (record { xs = refl; ps = refl; cs = all_length 2048 (replicate 17 all_false) refl })) refl (length-replicate {A = ℕ} 4096 0)
