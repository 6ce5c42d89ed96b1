-- What writing an image answers. `room` is the length of the buffer.
use Rattle.replies.specs.Reply.{Reply, is_done}
use Rattle.std.specs.Prelude.{ℕ, List, ltb, length, Result, Ok, Err}
use Rattle.bits.specs.Choice.{pick}
use Rattle.replies.specs.declared.Refusal.{Refusal}
use Rattle.replies.specs.declared.Refusal.TheVariants as R
use Rattle.registers.specs.declared.State.{State}
use Rattle.registers.specs.Legal.{illegal}
use Rattle.octets.specs.Bytes.{over}
use Rattle.image.specs.Image.{image_of}
use Rattle.image.specs.Sections.{or_else}

-- 4, then a word count above 4,096 (6), then 8
unfoldable pub write_reply : State → List ℕ → ℕ → Reply
write_reply s ws room =
    pick (illegal s) (Err R.IllegalState) (pick (ltb 4096 (length ws)) (Err R.NotAllowed) (pick (ltb room (length (image_of s ws))) (Err R.BufferTooSmall) (Ok tt)))

-- how many bytes the image has
unfoldable pub written_of : State → List ℕ → ℕ → Result ℕ Refusal
written_of s ws room = or_else (write_reply s ws room) (Ok (length (image_of s ws)))

-- the buffer after a writing: the image, and past it what stood there; after a refusal as it was
unfoldable pub buffer_after : State → List ℕ → List ℕ → List ℕ
buffer_after s ws buffer = pick (is_done (write_reply s ws (length buffer))) (over (image_of s ws) buffer) buffer
