-- The replies and their numbers.
use Rattle.std.specs.Prelude.{ℕ, Bool, Result, Ok, Err, is_ok}
use Rattle.replies.specs.declared.Refusal.{Refusal}
use Rattle.replies.specs.declared.Refusal.TheVariants as R

-- the number of each refusal
abbrev pub refusal_number : Refusal → ℕ
refusal_number R.ForeignWord = 1
refusal_number R.LevelTooLow = 2
refusal_number R.AccessOff = 3
refusal_number R.IllegalState = 4
refusal_number R.ImageCut = 5
refusal_number R.NotAllowed = 6
refusal_number R.TrailingBytes = 7
refusal_number R.BufferTooSmall = 8
refusal_number R.FieldPastRange = 9
refusal_number R.BadWalkRegisters = 10
refusal_number R.ListTooShort = 11
refusal_number R.BudgetSpent = 12
refusal_number R.UnsupportedForm = 13
refusal_number R.NotMonotonic = 14
refusal_number R.NotOwned = 15

-- a request is done, or refused for a reason
abbrev pub Reply : Type 0
Reply = Result Unit Refusal

-- the number of each reply
abbrev pub number_of : Reply → ℕ
number_of (Ok _) = 0
number_of (Err r) = refusal_number r

-- nothing was refused
abbrev pub is_done : Reply → Bool
is_done r = is_ok r
