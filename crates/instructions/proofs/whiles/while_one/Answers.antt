-- `while_one` meets its contract: the elements that a WHILE makes true are a span. Assumes nothing.
use Rattle.std.proofs.Common.{sym, ap, ◌∙◌}
use Rattle.bits.specs.Search.{count}
use Rattle.bits.specs.Size.{shift}
use Rattle.predicates.specs.Predicate.{elements}
use Rattle.scalars.specs.Value.{width_of, low_of}
use Rattle.scalars.specs.While.{upward, comparison, all_held}
use Rattle.instructions.specs.Whiles.{while_one_of}
use Rattle.instructions.proofs.Effects.{one_is}
use Rattle.instructions.proofs.WhileLaws.{spanned}
use Rattle.instructions.proofs.whiles.while_one.Goals as goal

pub returns : goal.returns
unfolding while_one_of
returns c =
    let a = c.args.compared in
    let w = width_of c.args.wide in
    let held = comparison w a.unsigned a.condition (low_of w a.rn) (low_of w a.rm) in
    let run = c.run-run.ensures in
    let is = spanned held _ (elements c.args.vl c.args.size) _ _ (upward a.condition) (shift c.args.size) _ _ _
    (run.n ∙ c.elements.ensures) run.up (run.held ∙ ap (count (all_held held)) (sym run.n))
    c.start.ensures c.end.ensures c.flags.ensures in
    one_is _ _ _ _ _ c.flagged.ensures (c.span-q.ensures ∙ is.predicate) is.flags
