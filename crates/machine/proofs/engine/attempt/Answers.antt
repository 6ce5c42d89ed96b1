-- `attempt` meets its contract. Assumes nothing.
use borrow.Author.Rules.{rules}
use Rattle.machine.proofs.Executing.{executes_in}
use mathlib.Core.Path.{◌≡◌}
use native.Mathlib.Omega.{arith}
use Rattle.std.specs.Prelude.{Err}
use Rattle.machine.proofs.Steps.{replied_in, passes, goes}
use Rattle.machine.proofs.engine.attempt.Goals as goal

pub returns-in_err-admission : goal.returns-in_err-admission
returns-in_err-admission c =
    let e : c.from_residual.result ≡ Err c.in_err-admission.field-0.0 = grind arith in
    search (passes, replied_in, c.in_err-admission.was, rules) depth 9

pub returns : goal.returns
returns c = search (goes, replied_in, executes_in, c.in_ok-admission.was, rules) depth 9
