-- `number` meets its contract: the bytes past the last are 0, and add nothing. Assumes nothing.
use mathlib.Core.List.{List, ◌++◌}
use mathlib.Core.Path.{◌≡◌, ap, ◌∙◌}
use Prim.Native.Nat.{ℕ}
use native.Mathlib.Omega.{arith}
use lib.ListN.{length, drop, replicate, length-append, length-drop}
use mir.Syntax.{w64}
use Rattle.std.specs.Int.{from_le_bytes}
use Rattle.octets.proofs.Bytes.{sum-worths, value-padded, value-zeros}
use Rattle.octets.proofs.number.Goals as goal

pub returns : goal.returns
returns c =
    let bs = c.args.bs.now in
    let zeros : List ℕ = drop (length bs) (replicate 8 0) in
    let whole : length (bs ++ zeros) ≡ 8 = simp (length-append, length-drop) (omega arith) in
    c.from_le_bytes.ensures ∙ ap (λ (l : List ℕ). from_le_bytes w64 (l ++ zeros)) c.copy_from_slice.ensures.after ∙ sum-worths 7 (bs ++ zeros) whole
    ∙ value-padded bs zeros (value-zeros (length bs) 8)
