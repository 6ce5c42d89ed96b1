-- `while_counter` meets its contract. Assumes nothing.
use Rattle.std.proofs.Common.{ℕ, Bool, ap, ◌∙◌, ap₂, mod-eq_of_lt, arith, rules, w64}
use Rattle.bits.specs.Bits.{test_bit}
use Rattle.bits.specs.Search.{count}
use Rattle.bits.specs.Size.{shift}
use Rattle.predicates.specs.PredTest.{nzcv}
use Rattle.predicates.specs.Predicate.{pack, elements}
use Rattle.predicates.proofs.Live.{elements-le}
use Rattle.scalars.specs.While.{upward, comparison, all_held}
use Rattle.instructions.specs.Counter.{counter_of, counter_flags, while_counter_of}
use Rattle.instructions.proofs.CounterLaws.{group-le}
use Rattle.instructions.proofs.Effects.{one_is}
use Rattle.instructions.proofs.counter.while_counter.Goals as goal

pub counter-requires : goal.counter-requires
counter-requires c =
    omega (arith, c.run-run.ensures.n, c.group.ensures, group-le c.args.four (elements c.args.vl c.args.size) (elements-le c.args.vl c.args.size))

pub returns : goal.returns
unfolding while_counter_of
returns c =
    let a = c.args.compared in
    let k = shift c.args.size in
    let u = upward a.condition in
    let run = c.run-run.ensures in
    let r = c.run-run.result in
    let g = run.n ∙ c.group.ensures in
    let held = comparison w64 a.unsigned a.condition a.rn a.rm in
    let n =
    run.held
    ∙ ap₂ (λ (x y : ℕ). count (all_held (comparison w64 a.unsigned a.condition x y)) c.group.result) (mod-eq_of_lt (search rules)) (mod-eq_of_lt (search rules))
    ∙ ap (count (all_held held)) c.group.ensures in
    one_is _ _ _ _ _ c.flagged.ensures
    (c.of_word.ensures
    ∙ ap (λ (x : ℕ). pack (test_bit x)) (c.counter.ensures
    ∙ ap (λ (t : Bool). counter_of t r.n r.held k) run.up
    ∙ ap₂ (λ (x y : ℕ). counter_of u x y k) g n))
    (c.counter_flags.ensures
    ∙ ap (λ (t : Bool). nzcv (counter_flags t r.n r.held)) run.up
    ∙ ap₂ (λ (x y : ℕ). nzcv (counter_flags u x y)) g n)
