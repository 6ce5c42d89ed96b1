-- Laws of the replies' numbers. Assumes nothing.
use mathlib.Core.Bool.{true, false}
use mathlib.Core.Path.{◌≡◌, refl}
use native.Mathlib.Omega.{arith}
use Rattle.std.specs.Prelude.{ℕ, ◌<◌, eqb, Result, Ok, Err}
use Rattle.replies.specs.declared.Refusal.{Refusal}
use Rattle.replies.specs.declared.Refusal.TheVariants as R
use Rattle.replies.specs.Reply.{Reply, refusal_number, number_of, is_done}

-- no refusal has the number 0
pub refusal_positive : (r : Refusal) → 0 < refusal_number r
refusal_positive R.ForeignWord = omega arith
refusal_positive R.LevelTooLow = omega arith
refusal_positive R.AccessOff = omega arith
refusal_positive R.IllegalState = omega arith
refusal_positive R.ImageCut = omega arith
refusal_positive R.NotAllowed = omega arith
refusal_positive R.TrailingBytes = omega arith
refusal_positive R.BufferTooSmall = omega arith
refusal_positive R.FieldPastRange = omega arith
refusal_positive R.BadWalkRegisters = omega arith
refusal_positive R.ListTooShort = omega arith
refusal_positive R.BudgetSpent = omega arith
refusal_positive R.UnsupportedForm = omega arith
refusal_positive R.NotMonotonic = omega arith
refusal_positive R.NotOwned = omega arith

-- 0 is the number of one reply
pub number_done : (r : Reply) → number_of r ≡ 0 → r ≡ Ok tt
number_done (Ok tt) e = refl
number_done (Err r) e = let h : 0 < refusal_number r = refusal_positive r in absurd (omega arith)

-- nothing is refused exactly if the number is 0
pub done_number : (r : Reply) → is_done r ≡ eqb (number_of r) 0
done_number (Ok tt) = refl
done_number (Err r) = let h : 0 < refusal_number r = refusal_positive r in search arith

-- what is not done refuses
pub not_done : (r : Reply) → (r ≡ Ok tt → ⊥) → is_done r ≡ false
not_done (Ok tt) h = absurd (h refl)
not_done (Err r) h = refl
