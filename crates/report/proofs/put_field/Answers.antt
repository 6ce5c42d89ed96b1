-- `put_field` meets its contract: what is left to write is stored over what was. Assumes nothing.
use mathlib.Core.Path.{refl, ◌∙◌}
use native.Mathlib.Omega.{arith}
use lib.ListN.{length-set}
use Rattle.report.proofs.Digits.{digit-turn, field_end}
use Rattle.report.proofs.put_field.Goals as goal

pub loop-i-preserved : goal.loop-i-preserved
loop-i-preserved c = (simp length-set (omega arith), digit-turn _ _ _ _ _ _ (omega arith) c.symbol.ensures ∙ c.loop-i.invariant.1)

pub returns : goal.returns
returns c = record { value = refl; buffer_after = field_end _ _ _ _ _ _ _ _ _ (omega arith) c.loop-i.invariant.1 }
