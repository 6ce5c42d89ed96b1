-- WHILE's comparisons.
use Rattle.std.specs.Prelude.{ℕ, zero, suc, ◌+◌, ◌-◌, ◌%◌, ◌^◌, Bool, true, false, not, ℤ, int_le, int_lt}
use Rattle.std.specs.Int.{Width}
use mir.Val.{bits}
use Rattle.bits.specs.Choice.{pick}
use Rattle.bits.specs.Search.{some}
use Rattle.scalars.specs.declared.Condition.{Condition}
use Rattle.scalars.specs.declared.Condition.TheVariants.{Less, LessEqual, GreaterEqual, Greater}
use Rattle.scalars.specs.Value.{value_as}

abbrev pub holds : Condition → ℤ → ℤ → Bool
holds Less a b = int_lt a b
holds LessEqual a b = int_le a b
holds GreaterEqual a b = int_le b a
holds Greater a b = int_lt b a

-- less, and less or equal, count up
abbrev pub upward : Condition → Bool
upward Less = true
upward LessEqual = true
upward GreaterEqual = false
upward Greater = false

-- incremented by one or decremented, wrapping at the width
abbrev pub next_operand : Width → Bool → ℕ → ℕ
next_operand w up a = pick up ((a + 1) % 2 ^ bits w) ((a + (2 ^ bits w - 1)) % 2 ^ bits w)

-- the first operand at the e-th comparison
unfoldable pub operand_at : Width → Bool → ℕ → ℕ → ℕ
operand_at w up a zero = a
operand_at w up a (suc e) = next_operand w up (operand_at w up a e)

-- the e-th comparison
unfoldable pub comparison : Width → Bool → Condition → ℕ → ℕ → ℕ → Bool
comparison w unsigned c a b e = holds c (value_as w unsigned (operand_at w (upward c) a e)) (value_as w unsigned b)

-- comparison e and all earlier ones held
unfoldable pub all_held : (ℕ → Bool) → ℕ → Bool
all_held held e = not (some (λ i. not (held i)) (suc e))
