-- WHILE into a predicate or a pair of them.
use Rattle.std.specs.Prelude.{ℕ, ◌+◌, ◌-◌, ◌*◌, Bool, ◌&&◌, nat_lt}
use Rattle.std.specs.Int.{w64}
use Rattle.bits.specs.declared.Size.{Size}
use Rattle.bits.specs.Choice.{pick}
use Rattle.bits.specs.Size.{shift}
use Rattle.predicates.specs.declared.Flags.{Flags}
use Rattle.predicates.specs.Predicate.{pack, spread, between, elements}
use Rattle.predicates.specs.PredTest.{every, pred_test}
use Rattle.scalars.specs.declared.Condition.{Condition}
use Rattle.scalars.specs.Value.{width_of, low_of}
use Rattle.scalars.specs.While.{upward, comparison, all_held}
use Rattle.instructions.specs.Effect.{Effect, gives_pf, gives_ppf}

-- element e of n: counting up, the comparisons go from the lowest element; counting down, from the highest
unfoldable pub while_element : Bool → (ℕ → Bool) → ℕ → ℕ → Bool
while_element up held n e = nat_lt e n && all_held held (pick up e (n - 1 - e))

-- the halves of a pair's elements, E in each
abbrev pub low_half : ℕ → (ℕ → Bool) → ℕ → Bool
low_half n q e = nat_lt e n && q e

abbrev pub high_half : ℕ → (ℕ → Bool) → ℕ → Bool
high_half n q e = nat_lt e n && q (n + e)

-- into one predicate: the operands are the whole registers, or their low words
unfoldable pub while_one_of : Condition → Bool → Bool → Size → ℕ → ℕ → ℕ → Effect
while_one_of c unsigned wide size rn rm vl =
    let w = width_of wide in
    let n = elements vl size in
    let q = while_element (upward c) (comparison w unsigned c (low_of w rn) (low_of w rm)) n in
    gives_pf (pack (spread (shift size) q)) (pred_test every q n)

-- into a pair: 2 E elements, the low half in the even register
unfoldable pub while_pair_of : Condition → Bool → Size → ℕ → ℕ → ℕ → Effect
while_pair_of c unsigned size rn rm vl =
    let n = elements vl size in
    let q = while_element (upward c) (comparison w64 unsigned c rn rm) (2 * n) in
    gives_ppf (pack (spread (shift size) (low_half n q))) (pack (spread (shift size) (high_half n q))) (pred_test every q (2 * n))

-- the flags of n elements of which c are true, the lowest or the highest ones
unfoldable pub span_flags : Bool → ℕ → ℕ → Flags
span_flags up c n = pred_test every (between (pick up 0 (n - c)) (pick up c n)) n
