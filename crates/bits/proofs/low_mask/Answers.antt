-- `bits::low_mask` meets its contract: all ones, shifted right, are the bits below a bound. Assumes nothing.
use mathlib.Core.Path.{sym, ap, ◌∙◌}
use Prim.Native.Nat.{ℕ, ◌-◌, ◌^◌}
use native.Mathlib.Omega.{arith}
use Rattle.bits.proofs.Bits.{number-below, ones_shifted}
use Rattle.bits.proofs.low_mask.Goals as goal

pub returns-then-n-eq0 : goal.returns-then-n-eq0
returns-then-n-eq0 c =
    ap (λ (n : ℕ). 2 ^ n - 1) (sym c.if-n-eq0.true ∙ c.room-n.ensures) ∙ sym (number-below c.args.m c.args.at 64)

pub returns : goal.returns
returns c =
    ones_shifted 64 c.room-n.result (omega arith)
    ∙ ap (λ (n : ℕ). 2 ^ n - 1) c.room-n.ensures
    ∙ sym (number-below c.args.m c.args.at 64)
