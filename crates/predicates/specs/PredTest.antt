-- PredTest: the flags of a result under a mask, over elements.
use Rattle.std.specs.Prelude.{ℕ, ◌+◌, ◌-◌, ◌*◌, Bool, true, false, not, ◌&&◌, ltb}
use Rattle.bits.specs.Choice.{digit}
use Rattle.bits.specs.Bits.{test_bit}
use Rattle.bits.specs.Search.{some, after_last, first_from}
use Rattle.predicates.specs.declared.Flags.{Flags}

-- the lowest of the n elements that is active in the mask is true in the result
unfoldable pub at_lowest : (ℕ → Bool) → (ℕ → Bool) → ℕ → Bool
at_lowest mask result n = ltb (first_from mask 0 n) n && result (first_from mask 0 n)

-- the highest of the n elements that is active in the mask is true in the result
unfoldable pub at_highest : (ℕ → Bool) → (ℕ → Bool) → ℕ → Bool
at_highest mask result n = ltb 0 (after_last mask n) && result (after_last mask n - 1)

-- N: the lowest active mask element is true in the result. Z: no active mask element is. C: the highest is not. V: 0.
unfoldable pub pred_test : (ℕ → Bool) → (ℕ → Bool) → ℕ → Flags
pred_test mask result n = record {
  n = at_lowest mask result n;
  z = not (some (λ e. mask e && result e) n);
  c = not (at_highest mask result n);
  v = false;
}

-- the all-true mask
abbrev pub every : ℕ → Bool
every e = true

-- flags as the number NZCV, N its highest bit
unfoldable pub nzcv : Flags → ℕ
nzcv f = digit f.n * 8 + digit f.z * 4 + digit f.c * 2 + digit f.v

-- the flags that a number NZCV has
unfoldable pub flags_of : ℕ → Flags
flags_of x = record { n = test_bit x 3; z = test_bit x 2; c = test_bit x 1; v = test_bit x 0 }
