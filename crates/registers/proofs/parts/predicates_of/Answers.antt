-- `predicates_of` meets its contract. Assumes nothing.
use borrow.Author.Rules.{rules}
use mathlib.Core.List.{List, []}
use mathlib.Core.Path.{◌≡◌, ◌∙◌}
use Prim.Native.Nat.{ℕ}
use lib.ListN.{length}
use Rattle.registers.proofs.Registers.{default_any, length_mapped}
use Rattle.registers.proofs.PartLaws.{filled, by_words}
use Rattle.registers.proofs.parts.predicates_of.Goals as goal

pub returns : goal.returns
returns c =
    let xs = c.args.p in
    let l : length xs ≡ 17 = search (rules, length_mapped) in
    let e = filled _ (λ (w : List ℕ). record { words = w }) _ xs c.from_fn.result 17 [] c.from_fn.ensures.items l (λ i y q b k. (search (rules, default_any), search rules)) in
    e ∙ by_words xs
