-- `next` meets its contract. Assumes nothing.
use mathlib.Core.Path.{◌≡◌}
use native.Mathlib.Omega.{arith}
use Rattle.std.specs.Prelude.{Err}
use Rattle.machine.proofs.Steps.{word_passed, word_ours}
use Rattle.machine.proofs.engine.next.Goals as goal

pub returns-in_err-i : goal.returns-in_err-i
returns-in_err-i c =
    let e : c.from_residual.result ≡ Err c.in_err-i.field-0.0 = grind arith in
    word_passed _ _ _ _ _ c.decode.ensures c.in_err-i.was e

pub returns : goal.returns
returns c = word_ours _ _ _ _ _ c.decode.ensures c.in_ok-i.was c.attempt.ensures
