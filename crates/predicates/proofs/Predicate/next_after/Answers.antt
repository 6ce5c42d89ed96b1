-- `Predicate::next_after` meets its contract: elements are found by the bits that they start at. Assumes nothing.
use mathlib.Core.Path.{◌≡◌, sym, ap, ◌∙◌}
use Prim.Native.Nat.{ℕ, ◌+◌, ◌*◌, ◌/◌, ◌%◌, ◌^◌}
use native.Mathlib.Decide.{dec_lt}
use native.Mathlib.Nat.{min-eq_left, min-eq_right}
use native.Mathlib.Omega.{arith}
use borrow.Author.Rules.{rules}
use Rattle.bits.specs.Search.{first_from}
use Rattle.bits.specs.Size.{shift}
use Rattle.bits.proofs.Searches.{first_end}
use Rattle.bits.proofs.Sizes.{shift-lt, shifted}
use Rattle.predicates.specs.Predicate.{active, spread}
use Rattle.predicates.proofs.ElementBits.{active_past, past_bits, next-within, next_beyond, next-none}
use Rattle.predicates.proofs.Words.{words_of}
use Rattle.predicates.proofs.Predicate.next_after.Goals as goal
use Rattle.predicates.proofs.Predicate.next_after.Goals.{After-lowest_from-b}

-- the bit that is found, over the size
found : (c : After-lowest_from-b) → let a = c.args in
    c.lowest_from-b.result ≡ first_from (spread (shift a.size) (active (shift a.size) a.self)) ((a.start + 1) * 2 ^ shift a.size) 256
found c =
    let a = c.args in
    let k = shift a.size in
    c.lowest_from-b.ensures
    ∙ ap (λ (x : ℕ). first_from (spread k (active k a.self)) x 256)
    (ap (λ (x : ℕ). ((a.start + 1) * 2 ^ x) % 2 ^ 64) c.shift-k.ensures ∙ shifted (a.start + 1) k (omega arith) (shift-lt a.size))

-- and its element
element : (c : After-lowest_from-b) → c.lowest_from-b.result / 2 ^ c.shift-k.result ≡ c.lowest_from-b.result / 2 ^ shift c.args.size
element c = ap (λ (x : ℕ). c.lowest_from-b.result / 2 ^ x) c.shift-k.ensures

pub returns-then-start-ge256 : goal.returns-then-start-ge256
returns-then-start-ge256 c =
    let a = c.args in
    let k = shift a.size in
    let past = past_bits k (a.start + 1) (omega arith) in
    next-none k (active k a.self) (a.start + 1) a.elements _ (sym (first_end _ _ _ past)) (active_past k a.self (search (rules, words_of))) (omega arith) past

pub returns-then-b-ge256 : goal.returns-then-b-ge256
returns-then-b-ge256 c =
    let a = c.args in
    let k = shift a.size in
    next-none k (active k a.self) (a.start + 1) a.elements _ (found (goal.at.returns-then-b-ge256 c).After-lowest_from-b) (active_past k a.self (search (rules, words_of))) (omega arith) c.if-b-ge256.true

pub returns : goal.returns
returns c =
    let a = c.args in
    let k = shift a.size in
    let f = found (goal.at.returns c).After-lowest_from-b in
    let e = element (goal.at.returns c).After-lowest_from-b in
    elim (dec_lt (c.lowest_from-b.result / 2 ^ k) a.elements) [
      | yes l ↦ c.min.ensures ∙ rw e (min-eq_left (omega arith)) ∙ next-within k (active k a.self) (a.start + 1) a.elements _ f c.if-b-ge256.false l
      | no l ↦ c.min.ensures ∙ rw e (min-eq_right (omega arith)) ∙ next_beyond k (active k a.self) (a.start + 1) a.elements _ f c.if-b-ge256.false (omega arith) (omega arith)
    ]
