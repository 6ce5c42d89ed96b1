-- `while_pair` meets its contract: the elements are a span of 2 E, cut in two. Assumes nothing.
use Rattle.std.proofs.Common.{ℕ, ◌*◌, sym, ap, ◌∙◌, ap₂, mod-eq_of_lt, arith, rules, w64}
use Rattle.bits.specs.Search.{count}
use Rattle.bits.specs.Size.{shift}
use Rattle.predicates.specs.Predicate.{elements}
use Rattle.predicates.proofs.Live.{elements-le}
use Rattle.scalars.specs.While.{upward, comparison, all_held}
use Rattle.instructions.specs.Whiles.{while_pair_of}
use Rattle.instructions.proofs.Effects.{pair_is}
use Rattle.instructions.proofs.WhileLaws.{halved}
use Rattle.instructions.proofs.whiles.while_pair.Goals as goal

pub overflow_mul-n : goal.overflow_mul-n
overflow_mul-n c = omega (arith, c.elements-n.ensures, elements-le c.args.vl c.args.size)

pub returns : goal.returns
unfolding while_pair_of
returns c =
    let a = c.args.compared in
    let held = comparison w64 a.unsigned a.condition a.rn a.rm in
    let run = c.run-run.ensures in
    let is = halved held _ _ (elements c.args.vl c.args.size) _ _ (upward a.condition) (shift c.args.size) _ _ _ _ _ _
    run.n c.elements-n.ensures run.up
    (run.held
    ∙ ap₂ (λ (x y : ℕ). count (all_held (comparison w64 a.unsigned a.condition x y)) (2 * c.elements-n.result)) (mod-eq_of_lt (search rules)) (mod-eq_of_lt (search rules))
    ∙ ap (count (all_held held)) (sym run.n))
    c.start-from.ensures c.end-to.ensures
    c.min.ensures c.saturating_sub.ensures c.saturating_sub-2.ensures c.flags.ensures in
    pair_is _ _ _ _ _ _ _ c.flagged.ensures (c.span-low.ensures ∙ is.low) (c.span-high.ensures ∙ is.high) is.flags
