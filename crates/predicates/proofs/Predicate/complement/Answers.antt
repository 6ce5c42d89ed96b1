-- `Predicate::complement` meets its contract: the complement of a word is `not` of its bits. Assumes nothing.
use mathlib.Core.Bool.{not}
use Prim.Native.Nat.{ℕ, ◌-◌, ◌^◌}
use borrow.Author.Rules.{rules}
use Rattle.bits.proofs.Bits.{number-not}
use Rattle.predicates.proofs.Words.{words_of, op_packed}
use Rattle.predicates.proofs.Predicate.complement.Goals as goal

pub returns : goal.returns
returns c =
    op_packed (λ a b. not a) (λ a b. 2 ^ 64 - 1 - a) (λ f g (at : ℕ). number-not f at 64) c.args.self c.args.self (search (rules, words_of)) (search (rules, words_of))
    c.zip.result (search (rules, words_of)) (λ i l. let k = c.zip.ensures i l in search rules)
