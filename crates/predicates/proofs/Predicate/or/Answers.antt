-- `Predicate::or` meets its contract: OR of words is `||` of bits. Assumes nothing.
use mathlib.Core.Bool.{◌||◌}
use Prim.Native.Nat.{ℕ}
use lib.Bits.{bit_or}
use borrow.Author.Rules.{rules}
use Rattle.bits.proofs.Bits.{number-or}
use Rattle.predicates.proofs.Words.{words_of, op_packed}
use Rattle.predicates.proofs.Predicate.or.Goals as goal

pub returns : goal.returns
returns c =
    op_packed ◌||◌ bit_or (λ f g (at : ℕ). number-or f g at 64) c.args.self c.args.other (search (rules, words_of)) (search (rules, words_of))
    c.zip.result (search (rules, words_of)) (λ i l. let k = c.zip.ensures i l in search rules)
