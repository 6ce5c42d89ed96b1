-- A number's bits, and a number from its bits.
use Rattle.std.specs.Prelude.{ℕ, zero, suc, ◌+◌, ◌*◌, ◌/◌, ◌%◌, ◌^◌, Bool, ltb, eqb}
use Rattle.bits.specs.Choice.{digit}

-- bit k of n
unfoldable pub test_bit : ℕ → ℕ → Bool
test_bit n k = eqb (n / 2 ^ k % 2) 1

-- the number of n bits whose bit i is f (at + i)
unfoldable pub number : (ℕ → Bool) → ℕ → ℕ → ℕ
number f at zero = 0
number f at (suc n) = number f (suc at) n * 2 + digit (f at)

-- the bits below m
unfoldable pub below : ℕ → ℕ → Bool
below m b = ltb b m

-- the lowest bit of each element of 2 ^ k bits
unfoldable pub element_bit : ℕ → ℕ → Bool
element_bit k b = eqb (b % 2 ^ k) 0
