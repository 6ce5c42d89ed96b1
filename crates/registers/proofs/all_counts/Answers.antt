-- `all_counts` meets its contract. Assumes nothing.
use borrow.Author.Rules.{rules}
use mathlib.Core.Path.{◌≡◌}
use native.Mathlib.Omega.{arith}
use lib.ListN.{length}
use Rattle.tally.specs.Counts.{counts_of}
use Rattle.registers.specs.State.{all_false, all_counts}
use Rattle.registers.proofs.Registers.{default_any, length_mapped}
use Rattle.registers.proofs.PartLaws.{filled_front}
use Rattle.registers.proofs.all_counts.Goals as goal

pub returns : goal.returns
unfolding all_counts
returns c =
    let xs = c.args.p in
    let l : length xs ≡ 17 = search (rules, length_mapped) in
    filled_front _ (counts_of c.args.vl) _ xs c.from_fn.result 16 all_false c.from_fn.ensures.items (omega arith) (λ i y q b k. (search (rules, default_any), search rules))
