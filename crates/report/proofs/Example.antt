-- Document 01's example: its four lines, byte for byte. Assumes nothing.
use mathlib.Core.Bool.{true, false}
use mathlib.Core.List.{List, [], ◌∷◌, ◌++◌}
use mathlib.Core.Path.{◌≡◌, refl}
use Prim.Native.Nat.{ℕ}
use lib.ListN.{replicate}
use Rattle.predicates.specs.declared.Flags.{Flags}
use Rattle.report.specs.Lines.{symbol, digits, decimal_in, flag_digits, word_line, end_line, image_line, after, placed}

-- N and C
abbrev pub flags : Flags
flags = record { n = true; z = false; c = true; v = false }

-- 0 25a21c20 0 1010
pub first : word_line 0 631381024 0 flags ≡ 48 ∷ 32 ∷ 50 ∷ 53 ∷ 97 ∷ 50 ∷ 49 ∷ 99 ∷ 50 ∷ 48 ∷ 32 ∷ 48 ∷ 32 ∷ 49 ∷ 48 ∷ 49 ∷ 48 ∷ 10 ∷ []
unfolding word_line flag_digits decimal_in digits symbol
first = refl

-- 1 2519c401 0 1010
pub second : word_line 1 622445569 0 flags ≡ 49 ∷ 32 ∷ 50 ∷ 53 ∷ 49 ∷ 57 ∷ 99 ∷ 52 ∷ 48 ∷ 49 ∷ 32 ∷ 48 ∷ 32 ∷ 49 ∷ 48 ∷ 49 ∷ 48 ∷ 10 ∷ []
unfolding word_line flag_digits decimal_in digits symbol
second = refl

-- 2 00000000 1 1010
pub third : word_line 2 0 1 flags ≡ 50 ∷ 32 ∷ 48 ∷ 48 ∷ 48 ∷ 48 ∷ 48 ∷ 48 ∷ 48 ∷ 48 ∷ 32 ∷ 49 ∷ 32 ∷ 49 ∷ 48 ∷ 49 ∷ 48 ∷ 10 ∷ []
unfolding word_line flag_digits decimal_in digits symbol
third = refl

-- end 2
pub last : end_line 2 ≡ 101 ∷ 110 ∷ 100 ∷ 32 ∷ 50 ∷ 10 ∷ []
unfolding end_line decimal_in symbol
last = refl

-- image 5
pub refused : image_line 5 ≡ 105 ∷ 109 ∷ 97 ∷ 103 ∷ 101 ∷ 32 ∷ 53 ∷ 10 ∷ []
unfolding image_line decimal_in symbol
refused = refl

-- written one after the other into 64 zeros, they end at 60, and the last four zeros stay
abbrev pub written : List ℕ
written = placed (end_line 2) 54 (placed (word_line 2 0 1 flags) 36 (placed (word_line 1 622445569 0 flags) 18 (placed (word_line 0 631381024 0 flags) 0 (replicate 64 0))))

pub text : written ≡ (48 ∷ 32 ∷ 50 ∷ 53 ∷ 97 ∷ 50 ∷ 49 ∷ 99 ∷ 50 ∷ 48 ∷ 32 ∷ 48 ∷ 32 ∷ 49 ∷ 48 ∷ 49 ∷ 48 ∷ 10 ∷ 49 ∷ 32 ∷ 50 ∷ 53 ∷ 49 ∷ 57 ∷ 99 ∷ 52 ∷ 48 ∷ 49 ∷ 32 ∷ 48 ∷ 32 ∷ 49 ∷ 48 ∷ 49 ∷ 48 ∷ 10 ∷ 50 ∷ 32 ∷ 48 ∷ 48 ∷ 48 ∷ 48 ∷ 48 ∷ 48 ∷ 48 ∷ 48 ∷ 32 ∷ 49 ∷ 32 ∷ 49 ∷ 48 ∷ 49 ∷ 48 ∷ 10 ∷ 101 ∷ 110 ∷ 100 ∷ 32 ∷ 50 ∷ 10 ∷ []) ++ replicate 4 0
unfolding placed word_line end_line flag_digits decimal_in digits symbol
text = refl

pub ends : after (end_line 2) 54 64 ≡ 60
unfolding after end_line decimal_in symbol
ends = refl
