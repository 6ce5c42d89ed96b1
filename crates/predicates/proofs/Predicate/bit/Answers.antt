-- `Predicate::bit` meets its contract. Assumes nothing.
use mathlib.Core.Path.{sym, ap, ◌∙◌}
use Prim.Native.Nat.{ℕ, ◌%◌}
use native.Mathlib.Omega.{arith}
use borrow.Author.Rules.{rules}
use borrow.Author.Tests.{le-ltb}
use Rattle.bits.specs.Bits.{test_bit}
use Rattle.predicates.specs.Predicate.{bit_at}
use Rattle.predicates.proofs.Words.{words_of, bit_past}
use Rattle.predicates.proofs.Predicate.bit.Goals as goal

pub returns-then-b-lt256 : goal.returns-then-b-lt256
unfolding bit_at
returns-then-b-lt256 c = c.bit_of.ensures ∙ ap (λ (w : ℕ). test_bit w (c.args.b % 64)) c.word.ensures

pub returns-else-b-lt256 : goal.returns-else-b-lt256
returns-else-b-lt256 c = le-ltb c.args.b 256 (omega arith) ∙ sym (bit_past c.args.self (search (rules, words_of)) c.args.b (omega arith))
