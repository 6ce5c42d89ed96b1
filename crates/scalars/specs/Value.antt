-- A general register's value at a width, unsigned or signed.
use Rattle.std.specs.Prelude.{ℕ, ◌%◌, ◌^◌, Bool, true, false, ℤ, pos}
use Rattle.std.specs.Int.{Width, w32, w64}
use mir.Val.{to_z, bits}
use Rattle.bits.specs.Choice.{pick}

-- sf: 64 bits, or 32
abbrev pub width_of : Bool → Width
width_of true = w64
width_of false = w32

-- the register's low bits
abbrev pub low_of : Width → ℕ → ℕ
low_of w x = x % 2 ^ bits w

-- bits as a number: as they stand, or in two's complement
abbrev pub value_as : Width → Bool → ℕ → ℤ
value_as w unsigned n = pick unsigned (pos n) (to_z w n)
