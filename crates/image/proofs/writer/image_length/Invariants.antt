-- `image_length` meets its contract: the length and the sections that are left make the image. Assumes nothing.
use mathlib.Core.Path.{◌≡◌}
use Prim.Native.Nat.{◌+◌}
use lib.ListN.{drop}
use Rattle.image.specs.Sections.{sections, bytes_of, image_length}
use Rattle.image.proofs.writer.image_length.Given as goal

abbrev pub invariant-loop-section : goal.invariant-loop-section
invariant-loop-section l = l.length + bytes_of (λ s. s.lowest) (drop l.section-index (sections l.vl)) ≡ image_length l.vl l.words
