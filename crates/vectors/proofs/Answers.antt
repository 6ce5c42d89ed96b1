-- What readings and writings that end with no refusal say, and items beside bytes. Assumes nothing.
use Rattle.replies.specs.Reply.{Reply, is_done}
use Rattle.replies.specs.declared.Refusal.{Refusal}
use Rattle.std.specs.Prelude.{Result, Ok, Err, IfSome}
use Rattle.std.specs.Result.{result_ok}
use mathlib.Core.List.{List}
use mathlib.Core.Path.{◌≡◌, refl, sym, ap, ◌∙◌}
use Prim.Native.Nat.{ℕ, ◌*◌, ◌<◌}
use native.Mathlib.Omega.{arith}
use lib.ListN.{length, take, drop, get_or, length-append}
use lib.Seq.{ext_get_or, take_at}
use Rattle.bits.specs.Choice.{pick}
use Rattle.registers.specs.declared.State.{State}
use Rattle.octets.specs.Bytes.{value, parts, over}
use Rattle.octets.proofs.Bytes.{length-parts, parts_at}
use Rattle.image.specs.declared.Reading.{Reading}
use Rattle.image.specs.Sections.{or_else}
use Rattle.image.specs.Image.{image_of}
use Rattle.image.specs.Reading.{image_reply, state_of, words_of, count_of, content_of, words_at, read_of, list_after}
use Rattle.image.specs.Writing.{write_reply, written_of, buffer_after}
use Rattle.vectors.specs.Records.{reply_in, Reads}

-- what follows a reply and is Ok
ok_by : {A : Type 0} (q : Reply) (x y : A) → Ok y ≡ or_else q (Ok x) → (q ≡ Ok tt) × (y ≡ x)
unfolding or_else
ok_by (Ok tt) x y h = (refl, cc)
ok_by (Err d) x y h = let z : ◌≡◌ {A = ℕ} 0 1 = cc in absurd (omega arith)

-- ---- a reading

module _ (image list filled : List ℕ) (y : Reading) (room : length list ≡ 4096) (er : Ok y ≡ read_of (length list) image) (ef : filled ≡ list_after image list) where
  abbrev held : Reading
  held = record { state = state_of image; count = count_of (words_at image) }

  told : (image_reply (length list) image ≡ Ok tt) × (y ≡ held)
  unfolding read_of
  told = ok_by (image_reply (length list) image) held y er

  count_is : y.count ≡ length (words_of image)
  unfolding words_of
  count_is = ap (λ (x : Reading). x.count) told.1 ∙ sym (length-parts value 4 (count_of (words_at image)) (content_of (words_at image)))

  filled_is : filled ≡ over (words_of image) list
  unfolding list_after
  filled_is = ef ∙ ap (λ (q : Reply). pick (is_done q) (over (words_of image) list) list) told.0

  pub reads : Reads image filled y
  unfolding over
  reads =
      record {
        whole = ap reply_in (ap (λ (n : ℕ). read_of n image) (sym room) ∙ sym er);
        state = ap (λ (x : Reading). x.state) told.1;
        room = rw (filled_is, count_is, length-append) (omega arith);
        words = ap (take y.count) filled_is ∙ take_at (words_of image) (drop (length (words_of image)) list) y.count (sym count_is);
      }

pub reads_if : (image list filled : List ℕ) (r : Result Reading Refusal) → length list ≡ 4096 → r ≡ read_of (length list) image → filled ≡ list_after image list
    → IfSome (result_ok r) (Reads image filled)
reads_if image list filled (Ok y) room er ef = reads image list filled y room er ef
reads_if image list filled (Err e) room er ef = tt

-- ---- a writing

pub written : (s : State) (ws buffer filled : List ℕ) (n : ℕ) → Ok n ≡ written_of s ws (length buffer) → filled ≡ buffer_after s ws buffer → take n filled ≡ image_of s ws
unfolding written_of buffer_after over
written s ws buffer filled n ew ef =
    let told : (write_reply s ws (length buffer) ≡ Ok tt) × (n ≡ length (image_of s ws)) = ok_by (write_reply s ws (length buffer)) (length (image_of s ws)) n ew in
    ap (take n) (ef ∙ ap (λ (q : Reply). pick (is_done q) (over (image_of s ws) buffer) buffer) told.0)
    ∙ take_at (image_of s ws) (drop (length (image_of s ws)) buffer) n (sym told.1)

-- ---- items beside bytes, k for each

pub all_parts : (k : ℕ) (l bs : List ℕ) → ((i : ℕ) → i < length l → get_or l i 0 ≡ value (take k (drop (i * k) bs))) → l ≡ parts value k (length l) bs
all_parts k l bs h = ext_get_or 0 l (parts value k (length l) bs) (sym (length-parts value k (length l) bs)) (λ i below. h i below ∙ sym (parts_at value k (length l) i bs 0 below))
