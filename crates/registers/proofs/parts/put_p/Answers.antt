-- `put_p` meets its contract. Assumes nothing.
use mathlib.Core.Path.{ap, ◌∙◌}
use native.Mathlib.Omega.{arith}
use lib.ListN.{set}
use Rattle.registers.specs.Parts.{predicates_of, counts_from}
use Rattle.registers.proofs.PartLaws.{write_in, counts_written, counts_write_out}
use Rattle.registers.proofs.parts.put_p.Goals as goal

pub returns-then-i-counts-clause-p_after : goal.returns-then-i-counts-clause-p_after
returns-then-i-counts-clause-p_after c = ap predicates_of c.put.ensures ∙ write_in _ _ _

pub returns-then-i-counts-clause-counts_after : goal.returns-then-i-counts-clause-counts_after
returns-then-i-counts-clause-counts_after c =
    let a = c.args in ap (λ n. counts_from (set a.counts.now a.r n)) c.numbers_in.ensures ∙ counts_written _ _ _ _ c.of.ensures

pub returns-else-i-counts-clause-p_after : goal.returns-else-i-counts-clause-p_after
returns-else-i-counts-clause-p_after c = ap predicates_of c.put.ensures ∙ write_in _ _ _

pub returns-else-i-counts-clause-counts_after : goal.returns-else-i-counts-clause-counts_after
returns-else-i-counts-clause-counts_after c = counts_write_out _ _ _ (omega arith)
