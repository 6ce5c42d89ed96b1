-- `difference` meets its contract. Assumes nothing.
use mathlib.Core.Bool.{true, false}
use mathlib.Core.Path.{refl}
use borrow.Author.Rules.{rules}
use Rattle.registers.proofs.PartLaws.{differs}
use Rattle.registers.proofs.parts.difference.Goals as goal

pub returns-then-low : goal.returns-then-low
returns-then-low c =
    let a = c.args in
    differs a.low true a.q a.c _ _ _ _ c.if-low.true c.first_planes.ensures c.tally_in.ensures c.packed.ensures (search rules)
    (record { b = search rules; h = search rules; s = search rules; d = search rules }) refl

pub returns : goal.returns
returns c =
    let a = c.args in
    differs a.low false a.q a.c _ _ _ _ c.if-low.false c.planes_of.ensures c.tally_in-2.ensures c.packed-2.ensures (search rules)
    (record { b = search rules; h = search rules; s = search rules; d = search rules }) refl
