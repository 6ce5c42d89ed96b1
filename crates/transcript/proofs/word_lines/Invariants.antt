-- `word_lines` meets its contract. Assumes nothing.
use mathlib.Core.Path.{◌≡◌}
use Prim.Native.Nat.{◌-◌, ◌≤◌}
use lib.ListN.{length, drop}
use Rattle.registers.specs.Parts.{state_at}
use Rattle.transcript.specs.Transcript.{lines_of}
use Rattle.transcript.proofs.Puts.{Same}
use Rattle.transcript.proofs.word_lines.Given as goal

abbrev pub invariant-loop-done : goal.invariant-loop-done
invariant-loop-done l =
    (l.done ≤ length l.words) × (length l.x ≡ 31) × (length l.p ≡ 17) × (length l.counts ≡ 16)
    × Same (lines_of (state_at l.settings l.flags l.x l.p l.counts) l.done (drop l.done l.words)) l.at l.out (lines_of (state_at l.settings l.initial.flags l.initial.x l.initial.p l.initial.counts) 0 l.words) 0 l.initial.out

abbrev pub decreases-loop-done : goal.decreases-loop-done
decreases-loop-done l = length l.words - l.done
