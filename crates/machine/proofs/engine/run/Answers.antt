-- `run` meets its contract. Assumes nothing.
use mathlib.Core.Path.{refl}
use native.Mathlib.Omega.{arith}
use borrow.Author.Rules.{rules}
use Rattle.machine.proofs.Steps.{run-illegal, run-legal, run_begins, kept_on, run_on, run_stops, run_ends}
use Rattle.machine.proofs.engine.run.Goals as goal

pub returns-then-not-is_legal : goal.returns-then-not-is_legal
returns-then-not-is_legal c = search (run-illegal, rules) depth 9

pub loop-done-init : goal.loop-done-init
loop-done-init c = (omega arith, refl, refl, refl, search (run-legal, rules) depth 9, search (run_begins, rules) depth 9)

pub returns-in-Err : goal.returns-in-Err
returns-in-Err c = search (run_stops, rules) depth 9

pub loop-done-preserved : goal.loop-done-preserved
loop-done-preserved c =
    let l = c.loop-done in
    (omega arith, search rules, search rules, search rules, kept_on _ _ _ l.invariant.4 c.next.ensures, run_on _ _ _ l.done l.invariant.4 l.invariant.5 _ _ (omega arith) c.next.ensures c.in_default.is)

pub returns : goal.returns
returns c = search (run_ends, rules) depth 9
