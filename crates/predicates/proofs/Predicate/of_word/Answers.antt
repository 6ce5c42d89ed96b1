-- `Predicate::of_word` meets its contract: a word has no bit from 64 on. Assumes nothing.
use mathlib.Core.Path.{◌≡◌, sym}
use Prim.Native.Nat.{ℕ, ◌≤◌}
use native.Mathlib.Omega.{arith}
use Rattle.bits.specs.Bits.{test_bit, number}
use Rattle.bits.proofs.Bits.{number-whole, number-none}
use Rattle.bits.proofs.Counts.{above_none}
use Rattle.predicates.proofs.Words.{four_words}
use Rattle.predicates.proofs.Predicate.of_word.Goals as goal

pub returns : goal.returns
returns c =
    let w = c.args.word in
    let none : (at : ℕ) → 64 ≤ at → 0 ≡ number (test_bit w) at 64 = λ at h. sym (number-none (test_bit w) at 64 (λ i l. above_none w 64 _ c.ranges.word.fits (omega arith))) in
    four_words (test_bit w) w 0 0 0 (sym (number-whole w 64 c.ranges.word.fits)) (none 64 (omega arith)) (none 128 (omega arith)) (none 192 (omega arith))
