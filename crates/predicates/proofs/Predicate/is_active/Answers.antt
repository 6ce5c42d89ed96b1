-- `Predicate::is_active` meets its contract: an element starts at its number shifted by its size. Assumes nothing.
use mathlib.Core.Path.{ap, ◌∙◌, sym}
use Prim.Native.Nat.{ℕ, ◌*◌, ◌^◌, ◌%◌}
use native.Mathlib.Omega.{arith}
use borrow.Author.Rules.{rules}
use borrow.Author.Tests.{le-ltb}
use Rattle.bits.specs.Size.{shift}
use Rattle.bits.proofs.Sizes.{shift-lt, shifted}
use Rattle.predicates.specs.Predicate.{bit_at, active}
use Rattle.predicates.proofs.ElementBits.{active_past, past_bits}
use Rattle.predicates.proofs.Words.{words_of}
use Rattle.predicates.proofs.Predicate.is_active.Goals as goal

pub returns-then-e-lt256 : goal.returns-then-e-lt256
unfolding active
returns-then-e-lt256 c =
    let k = shift c.args.size in
    let e = c.args.e in
    c.bit.ensures
    ∙ ap (bit_at c.args.self)
    (ap (λ (x : ℕ). (e * 2 ^ x) % 2 ^ 64) c.shift.ensures ∙ shifted e k (omega arith) (shift-lt c.args.size))

pub returns-else-e-lt256 : goal.returns-else-e-lt256
returns-else-e-lt256 c =
    le-ltb c.args.e 256 (omega arith) ∙ sym (active_past _ c.args.self (search (rules, words_of)) _ (past_bits _ _ (omega arith)))
