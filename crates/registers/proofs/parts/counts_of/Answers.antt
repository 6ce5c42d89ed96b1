-- `counts_of` meets its contract. Assumes nothing.
use borrow.Author.Rules.{rules}
use mathlib.Core.List.{[]}
use mathlib.Core.Path.{◌≡◌, ◌∙◌}
use lib.ListN.{length}
use Rattle.registers.specs.Parts.{counts_as}
use Rattle.registers.proofs.Registers.{default_any, length_mapped}
use Rattle.registers.proofs.PartLaws.{filled, by_numbers_as}
use Rattle.registers.proofs.parts.counts_of.Goals as goal

pub returns : goal.returns
returns c =
    let xs = c.args.counts in
    let l : length xs ≡ 16 = search (rules, length_mapped) in
    let e = filled _ (counts_as) _ xs c.from_fn.result 16 [] c.from_fn.ensures.items l (λ i y q b k. (search (rules, default_any), search rules)) in
    e ∙ by_numbers_as xs
