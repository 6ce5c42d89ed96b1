-- `bit` meets its contract. Assumes nothing.
use mathlib.Core.Path.{ap, ◌∙◌}
use Prim.Native.Nat.{ℕ, ◌+◌}
use Rattle.report.proofs.Digits.{bit_symbol}
use Rattle.report.proofs.bit.Goals as goal

pub returns : goal.returns
returns c = ap (λ (n : ℕ). 48 + n) c.from.ensures ∙ bit_symbol c.args.b
