-- Saturating sums and differences of a register and a count.
use Rattle.std.specs.Prelude.{ℕ, ◌-◌, ◌^◌, Bool, ℤ, pos, negsuc, ◌+ℤ◌, ◌-ℤ◌, int_lt}
use Rattle.std.specs.Int.{Width, w64}
use mir.Val.{bits, hbits, of_z}
use Rattle.bits.specs.Choice.{pick}
use Rattle.scalars.specs.Value.{low_of, value_as}

-- z, stopped at the ends of a range
unfoldable pub clamp : ℤ → ℤ → ℤ → ℤ
clamp least greatest z = pick (int_lt z least) least (pick (int_lt greatest z) greatest z)

-- the range of a width: 0 to 2 ^ bits - 1, or -(2 ^ (bits - 1)) to 2 ^ (bits - 1) - 1
abbrev pub saturated : Width → Bool → ℤ → ℤ
saturated w unsigned z = pick unsigned (clamp (pos 0) (pos (2 ^ bits w - 1)) z) (clamp (negsuc (2 ^ hbits w - 1)) (pos (2 ^ hbits w - 1)) z)

-- z and a count, added or subtracted
abbrev pub moved : Bool → ℤ → ℕ → ℤ
moved decrement z n = pick decrement (z -ℤ pos n) (z +ℤ pos n)

-- the register's low bits moved by the count, saturated, and extended to 64 bits
unfoldable pub saturating : Width → Bool → Bool → ℕ → ℕ → ℕ
saturating w unsigned decrement x n = of_z w64 (saturated w unsigned (moved decrement (value_as w unsigned (low_of w x)) n))
