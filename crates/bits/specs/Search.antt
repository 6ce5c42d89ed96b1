-- Searches among the numbers below a bound, by a test f.
use Rattle.std.specs.Prelude.{ℕ, zero, suc, ◌+◌, ◌-◌, Bool, false, ◌||◌}
use Rattle.bits.specs.Choice.{pick, digit}

-- how many numbers below n pass
unfoldable pub count : (ℕ → Bool) → ℕ → ℕ
count f zero = 0
count f (suc n) = count f n + digit (f n)

-- whether some number below n passes
unfoldable pub some : (ℕ → Bool) → ℕ → Bool
some f zero = false
some f (suc n) = f n || some f n

-- one more than the highest number below n that passes, 0 if none does: Arm's LastActiveElement, plus 1
unfoldable pub after_last : (ℕ → Bool) → ℕ → ℕ
after_last f zero = 0
after_last f (suc n) = pick (f n) (suc n) (after_last f n)

-- the first of the n numbers from `next` on that passes; next + n if none does
unfoldable pub scan : (ℕ → Bool) → ℕ → ℕ → ℕ
scan f zero next = next
scan f (suc n) next = pick (f next) next (scan f n (suc next))

-- the first number from `start` on and below n that passes; n if none does, or `start` where that is past n
abbrev pub first_from : (ℕ → Bool) → ℕ → ℕ → ℕ
first_from f start n = scan f (n - start) start
