-- `Predicate::end_element` meets its contract: rounding up by adding one less than the divisor. Assumes nothing.
use mathlib.Core.Path.{◌≡◌, ap, ap₂, ◌∙◌}
use Prim.Native.Nat.{ℕ, ◌+◌, ◌-◌, ◌*◌, ◌/◌, ◌%◌, ◌^◌}
use native.Mathlib.Omega.{arith}
use borrow.Author.Rules.{rules}
use Rattle.bits.specs.Size.{shift}
use Rattle.bits.proofs.Searches.{last_le}
use Rattle.bits.proofs.Sizes.{shift-lt, one_shifted, power_le}
use Rattle.predicates.specs.Predicate.{bit_at}
use Rattle.predicates.proofs.Live.{last_touched}
use Rattle.predicates.proofs.Words.{words_of}
use Rattle.predicates.proofs.Predicate.end_element.Goals as goal
use Rattle.predicates.proofs.Predicate.end_element.Goals.{After-shift-k}

-- 1 << k
width : (c : After-shift-k) → (1 * 2 ^ c.shift-k.result) % 2 ^ 64 ≡ 2 ^ shift c.args.size
width c =
    ap (λ (k : ℕ). (1 * 2 ^ k) % 2 ^ 64) c.shift-k.ensures ∙ one_shifted (shift c.args.size) (shift-lt c.args.size)

pub overflow_add-result : goal.overflow_add-result
overflow_add-result c =
    let size = c.args.size in
    omega (arith, width (goal.at.overflow_add-result c).After-shift-k, power_le (shift size) (shift-lt size), last_le (bit_at c.args.self) 256)

pub returns : goal.returns
returns c =
    let size = c.args.size in
    ap₂ (λ (x k : ℕ). (c.after_highest-end.result + (x - 1)) / 2 ^ k) (width (goal.at.returns c).After-shift-k) c.shift-k.ensures
    ∙ ap (λ (x : ℕ). (x + (2 ^ shift size - 1)) / 2 ^ shift size) c.after_highest-end.ensures
    ∙ last_touched (shift size) c.args.self (search (rules, words_of))
