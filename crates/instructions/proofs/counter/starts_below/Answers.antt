-- `starts_below` meets its contract. Assumes nothing.
use Rattle.std.proofs.Common.{ℕ, ◌+◌, ◌-◌, ◌/◌, ◌^◌, ap, ◌∙◌, arith}
use Rattle.bits.proofs.Sizes.{one_shifted}
use Rattle.predicates.proofs.ElementBits.{count_starts}
use Rattle.instructions.proofs.counter.starts_below.Goals as goal

pub returns : goal.returns
returns c =
    let b = c.args.b in
    let k = c.args.k in
    ap (λ (x : ℕ). (b + (x - 1)) / 2 ^ k) (one_shifted k (omega arith)) ∙ count_starts k b
