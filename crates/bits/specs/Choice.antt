-- Choosing by a Bool, and a Bool as a number.
use Rattle.std.specs.Prelude.{ℕ, Bool, true, false}

-- the first of the two where the test holds, else the second
abbrev pub pick : {A : Type 0} → Bool → A → A → A
pick true a b = a
pick false a b = b

-- a bit as a number
abbrev pub digit : Bool → ℕ
digit true = 1
digit false = 0
