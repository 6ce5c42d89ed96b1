-- Laws of saturation: std's saturating sums stop where the definitions do. Assumes nothing.
use Rattle.std.proofs.Common.{◌≡◌, ℕ, ◌+◌, ◌-◌, ◌^◌, ◌≤◌, ◌<◌, Bool, false, ℤ, pos, negsuc, ◌+ℤ◌, ◌-ℤ◌, min, arith, ap, ◌∙◌, le-ltb, lt-ltb, w32, w64, SFits, to_z, of_z, to_z-of_z, ap₂}
use native.Mathlib.Decide.{dec_lt}
use lib.Dec.{ltb}
use mir.Syntax.{Width}
use mir.Val.{hbits}
use Rattle.bits.specs.Choice.{pick}
use Rattle.std.specs.Int.{saturate_signed}
use Rattle.scalars.specs.Saturate.{clamp, saturated}

-- no more than g
least : {A : Type 0} (f : ℕ → A) (g m : ℕ) → f (min m g) ≡ pick (ltb g m) (f g) (f m)
least f g m =
    elim (dec_lt g m) [
      | yes l ↦ rw (lt-ltb g m l) (ap f (omega arith))
      | no l ↦ rw (le-ltb g m (omega arith)) (ap f (omega arith))
    ]

signed_stops : (w : Width) (z : ℤ) → saturate_signed w z ≡ saturated w false z
unfolding clamp
signed_stops w (pos m) = least pos (2 ^ hbits w - 1) m
signed_stops w (negsuc m) = least negsuc (2 ^ hbits w - 1) m

pub stops64 : (z : ℤ) → saturate_signed w64 z ≡ saturated w64 false z
stops64 z = signed_stops w64 z

pub stops32 : (z : ℤ) → saturate_signed w32 z ≡ saturated w32 false z
stops32 z = signed_stops w32 z

pub more_stops : (g x k : ℕ) → pos (min (x + k) g) ≡ clamp (pos 0) (pos g) (pos x +ℤ pos k)
unfolding clamp
more_stops g x k = rw (le-ltb (x + k) 0 (omega arith)) (least pos g (x + k))

sub_lt : (a b : ℕ) → a < b → pos a -ℤ pos b ≡ negsuc (b - a - 1)
sub_lt a b l = grind arith

sub_ge : (a b : ℕ) → b ≤ a → pos a -ℤ pos b ≡ pos (a - b)
sub_ge a b l = grind arith

pub less_stops : (g x k : ℕ) → x ≤ g → pos (x - k) ≡ clamp (pos 0) (pos g) (pos x -ℤ pos k)
unfolding clamp
less_stops g x k h =
    elim (dec_lt x k) [
      | yes l ↦ rw (sub_lt x k l) (ap pos (omega arith))
      | no l ↦ rw (sub_ge x k (omega arith)) (rw (le-ltb (x - k) 0 (omega arith), le-ltb g (x - k) (omega arith)))
    ]

-- of a saturating sum at 64 bits and at 32
pub ruleset stops = (less_stops, more_stops, stops64, stops32, to_z-of_z)
