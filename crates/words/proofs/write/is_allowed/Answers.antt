-- `words::write::is_allowed` meets its contract: logic leaves SEL with S = 1 out, every other form nothing.
use Rattle.std.proofs.Common.{ap, ◌∙◌}
use mathlib.Core.Bool.{not}
use borrow.Author.Rules.{rules}
use borrow.Author.Tests.{ne_eqb}
use Rattle.words.proofs.Table.{others_allowed, logic_allowed}
use Rattle.words.proofs.write.is_allowed.Goals as goal

pub returns-then-form-ne-LOGIC : goal.returns-then-form-ne-LOGIC
returns-then-form-ne-LOGIC c = ap not (ne_eqb c.args.form 11 c.if-form-ne-LOGIC.true) ∙ others_allowed c.args.form _ c.if-form-ne-LOGIC.true

pub returns-else-form-ne-LOGIC : goal.returns-else-form-ne-LOGIC
returns-else-form-ne-LOGIC c = search (logic_allowed, rules) depth 9
