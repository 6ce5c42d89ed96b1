-- `numbers_of` meets its contract. Assumes nothing.
use mathlib.Core.Path.{ap, ◌∙◌}
use Prim.Native.Nat.{◌+◌}
use mathlib.Core.List.{List}
use Prim.Native.Nat.{ℕ}
use native.Mathlib.Omega.{arith}
use lib.ListN.{length-set, take, set}
use Rattle.tally.specs.Counts.{no_counts}
use Rattle.registers.specs.Parts.{counts_from}
use Rattle.registers.proofs.Registers.{default_any}
use Rattle.registers.proofs.PartLaws.{counts_length, copied_all, numbers_more}
use Rattle.registers.proofs.parts.numbers_of.Goals as goal

pub loop-r-preserved : goal.loop-r-preserved
loop-r-preserved c =
    let l = c.loop-r in
    let k = c.args.counts in (
      simp length-set l.invariant.0,
      l.invariant.1,
      ap (λ (n : List ℕ). take (l.r + 1) (counts_from (set l.rows l.r n))) c.numbers_in.ensures
          ∙ numbers_more l.rows k l.r _ (omega arith) (omega arith) (default_any k l.r _ no_counts (omega arith)) l.invariant.2,
    )

pub returns : goal.returns
returns c =
    let l = c.loop-r in
    copied_all (counts_from l.rows) c.args.counts l.r (omega (arith, counts_length l.rows)) (omega arith) l.invariant.2
