-- `Predicate::and_not` meets its contract: AND with the complement of a word is the same of bits. Assumes nothing.
use mathlib.Core.Bool.{not, ◌&&◌}
use mathlib.Core.Path.{ap, ◌∙◌}
use Prim.Native.Nat.{ℕ, ◌-◌, ◌^◌}
use lib.Bits.{bit_and}
use borrow.Author.Rules.{rules}
use Rattle.bits.specs.Bits.{number}
use Rattle.bits.proofs.Bits.{number-and, number-not}
use Rattle.predicates.proofs.Words.{words_of, op_packed}
use Rattle.predicates.proofs.Predicate.and_not.Goals as goal

pub returns : goal.returns
returns c =
    op_packed (λ a b. a && not b) (λ a b. bit_and a (2 ^ 64 - 1 - b)) (λ f g (at : ℕ). number-and f (λ i. not (g i)) at 64 ∙ ap (bit_and (number f at 64)) (number-not g at 64)) c.args.self c.args.other (search (rules, words_of)) (search (rules, words_of))
    c.zip.result (search (rules, words_of)) (λ i l. let k = c.zip.ensures i l in search rules)
