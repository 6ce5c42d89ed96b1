-- `at_lowest` meets its contract: where the mask has no bit, it reads the result past its last bit, as false. Assumes nothing.
use mathlib.Core.Bool.{Bool, ◌&&◌}
use mathlib.Core.Path.{◌≡◌, sym, ap, ◌∙◌}
use native.Mathlib.Decide.{dec_lt}
use native.Mathlib.Omega.{arith}
use borrow.Author.Rules.{rules}
use borrow.Author.Tests.{lt-ltb, le-ltb}
use Rattle.predicates.specs.declared.Predicate.{Predicate}
use Rattle.predicates.specs.PredTest.{at_lowest}
use Rattle.predicates.specs.Predicate.{bit_at}
use Rattle.predicates.specs.Words.{Words}
use Rattle.predicates.proofs.Words.{words_of, bit_past}
use Rattle.predicates.proofs.at_lowest.Goals as goal
use Rattle.bits.specs.Search.{first_from}

low_bit : (m r : Predicate) → Words r → bit_at r (first_from (bit_at m) 0 256) ≡ at_lowest (bit_at m) (bit_at r) 256
unfolding at_lowest
low_bit m r ok =
    let b = first_from (bit_at m) 0 256 in
    elim (dec_lt b 256) [
      | yes l ↦ sym (ap (λ (t : Bool). t && bit_at r b) (lt-ltb b 256 l))
      | no l ↦ bit_past r ok b (omega arith) ∙ sym (ap (λ (t : Bool). t && bit_at r b) (le-ltb b 256 (omega arith)))
    ]

pub returns : goal.returns
returns c = c.bit.ensures ∙ ap (bit_at c.args.res) c.lowest.ensures ∙ low_bit c.args.mask c.args.res (search (rules, words_of))
