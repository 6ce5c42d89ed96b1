-- The program's lines, as bytes.
use Rattle.std.specs.Prelude.{ℕ, zero, suc, ◌+◌, ◌/◌, ◌%◌, Bool, List, [], ◌∷◌, ◌++◌, ltb, leb, length, take, drop}
use Rattle.bits.specs.Choice.{pick, digit}
use Rattle.predicates.specs.declared.Flags.{Flags}

-- 0 to 9, then a to f
unfoldable pub symbol : ℕ → ℕ
symbol d = pick (ltb d 10) (48 + d) (87 + d)

-- the k lowest digits of n in a base, most significant first
unfoldable pub digits : ℕ → ℕ → ℕ → List ℕ
digits base zero n = []
digits base (suc k) n = digits base k (n / base) ++ (symbol (n % base) ∷ [])

-- eight hex digits
abbrev pub hex : ℕ → List ℕ
hex n = digits 16 8 n

-- the decimal digits of n, most significant first, without leading zeros, in at most k steps
unfoldable pub decimal_in : ℕ → ℕ → List ℕ
decimal_in zero n = symbol n ∷ []
decimal_in (suc k) n = pick (ltb n 10) (symbol n ∷ []) (decimal_in k (n / 10) ++ (symbol (n % 10) ∷ []))

-- n steps are enough
abbrev pub decimal : ℕ → List ℕ
decimal n = decimal_in n n

-- NZCV, a digit each
unfoldable pub flag_digits : Flags → List ℕ
flag_digits f = symbol (digit f.n) ∷ symbol (digit f.z) ∷ symbol (digit f.c) ∷ symbol (digit f.v) ∷ []

abbrev pub space : ℕ
space = 32

abbrev pub newline : ℕ
newline = 10

-- ---- the lines

-- the word's number, the word, the reply, and NZCV after it
unfoldable pub word_line : ℕ → ℕ → ℕ → Flags → List ℕ
word_line number word reply f = decimal number ++ (space ∷ (hex word ++ (space ∷ (decimal reply ++ (space ∷ (flag_digits f ++ (newline ∷ [])))))))

-- `end ` and how many words were done
unfoldable pub end_line : ℕ → List ℕ
end_line done = 101 ∷ 110 ∷ 100 ∷ space ∷ (decimal done ++ (newline ∷ []))

-- `image ` and the reply
unfoldable pub image_line : ℕ → List ℕ
image_line reply = 105 ∷ 109 ∷ 97 ∷ 103 ∷ 101 ∷ space ∷ (decimal reply ++ (newline ∷ []))

-- ---- a line in a buffer

abbrev pub fits : List ℕ → ℕ → ℕ → Bool
fits line at room = leb (at + length line) room

-- the position after a line that fits whole; else where it was to stand
unfoldable pub after : List ℕ → ℕ → ℕ → ℕ
after line at room = pick (fits line at room) (at + length line) at

-- the line from `at` on, all else as it was; as it was if the line does not fit whole
unfoldable pub placed : List ℕ → ℕ → List ℕ → List ℕ
placed line at buffer = pick (fits line at (length buffer)) (take at buffer ++ (line ++ drop (at + length line) buffer)) buffer
