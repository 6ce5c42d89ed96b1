-- `run` meets its contract. Assumes nothing.
use mathlib.Core.Bool.{true}
use mathlib.Core.Path.{◌≡◌}
use Prim.Native.Nat.{◌≤◌, ◌-◌}
use lib.ListN.{length, drop}
use Rattle.registers.specs.Legal.{legal}
use Rattle.registers.specs.Parts.{state_at}
use Rattle.machine.specs.Step.{steps_of, run_of}
use Rattle.machine.proofs.engine.run.Given as goal

abbrev pub invariant-loop-done : goal.invariant-loop-done
invariant-loop-done l =
    (l.done ≤ length l.words) × (length l.x ≡ length l.initial.x) × (length l.p ≡ length l.initial.p) × (length l.counts ≡ length l.initial.counts)
    × (legal (state_at l.settings l.flags l.x l.p l.counts) ≡ true) × (steps_of l.done (state_at l.settings l.flags l.x l.p l.counts) (drop l.done l.words) ≡ run_of (state_at l.settings l.initial.flags l.initial.x l.initial.p l.initial.counts) l.words)

abbrev pub decreases-loop-done : goal.decreases-loop-done
decreases-loop-done l = length l.words - l.done
