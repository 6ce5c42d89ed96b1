-- `symbol` meets its contract. Assumes nothing.
use mathlib.Core.Path.{◌≡◌, ◌∙◌}
use Prim.Native.Nat.{◌+◌, ◌-◌}
use native.Mathlib.Omega.{arith}
use Rattle.report.proofs.Digits.{symbol_low, symbol_high}
use Rattle.report.proofs.symbol.Goals as goal

pub returns-then-d-lt10 : goal.returns-then-d-lt10
returns-then-d-lt10 c = symbol_low _ (omega arith)

pub returns-else-d-lt10 : goal.returns-else-d-lt10
returns-else-d-lt10 c = let e : 97 + c.args.d - 10 ≡ 87 + c.args.d = omega arith in e ∙ symbol_high _ (omega arith)
