-- `Predicate::xor` meets its contract: XOR of words is `xor` of bits. Assumes nothing.
use mathlib.Core.Bool.{xor}
use Prim.Native.Nat.{ℕ}
use lib.Bits.{bit_xor}
use borrow.Author.Rules.{rules}
use Rattle.bits.proofs.Bits.{number-xor}
use Rattle.predicates.proofs.Words.{words_of, op_packed}
use Rattle.predicates.proofs.Predicate.xor.Goals as goal

pub returns : goal.returns
unfolding xor
returns c =
    op_packed xor bit_xor (λ f g (at : ℕ). number-xor f g at 64) c.args.self c.args.other (search (rules, words_of)) (search (rules, words_of))
    c.zip.result (search (rules, words_of)) (λ i l. let k = c.zip.ensures i l in search rules)
