-- `four_words` meets its contract: fields of two bits, then of four. Assumes nothing.
use mathlib.Core.Path.{◌∙◌}
use Prim.Native.Nat.{◌+◌, ◌/◌}
use Rattle.tally.proofs.Pairs.{low-plane, high_plane, high_plane_2}
use Rattle.tally.proofs.four_words.Goals as goal

pub returns : goal.returns
returns c =
    let w = c.args in
    let e = c.fields_of-e.ensures in
    let f = c.fields_of-f.ensures in
    let g = c.fields_of-g.ensures in
    let h = c.fields_of-h.ensures in
    let fours = c.low_fields-fours.ensures ∙ low-plane w.a w.b w.c w.d _ _ e f in
    let twos = c.low_fields-twos.ensures ∙ high_plane w.a w.b w.c w.d _ _ e f in
    let ones = c.low_fields-y.ensures ∙ low-plane (w.a / 2) (w.b / 2) (w.c / 2) (w.d / 2) _ _ g h in
    let threes = c.low_fields-z.ensures ∙ high_plane_2 w.a w.b w.c w.d _ _ g h in
    λ i. record { fours = fours i; twos = twos i; odds = ones i + threes i }
