-- Numbers as bytes, lowest first, and runs of parts of one size.
use Rattle.std.specs.Prelude.{ℕ, zero, suc, ◌+◌, ◌*◌, ◌/◌, ◌%◌, ◌<◌, min, List, [], ◌∷◌, ◌++◌, length, get_or, take, drop}

-- what the type of a slice of bytes says: each is below 256
abbrev pub AreBytes : List ℕ → Type 0
AreBytes bs = (i : ℕ) → get_or bs i 0 < 256

-- the k lowest bytes of n, lowest first
unfoldable pub le : ℕ → ℕ → List ℕ
le zero n = []
le (suc k) n = n % 256 ∷ le k (n / 256)

-- the number of a list of bytes, lowest first
unfoldable pub value : List ℕ → ℕ
value [] = 0
value (b ∷ bs) = value bs * 256 + b

-- the number of the n bytes from `at` on, at most eight
abbrev pub number_at : ℕ → ℕ → List ℕ → ℕ
number_at at n bs = value (take (min n 8) (drop at bs))

-- the first n parts of k bytes each, each read by f
unfoldable pub parts : {A : Type 0} → (List ℕ → A) → ℕ → ℕ → List ℕ → List A
parts f k zero bs = []
parts f k (suc n) bs = f (take k bs) ∷ parts f k n (drop k bs)

-- the bytes of one after the other, each written by g
unfoldable pub joined : {A : Type 0} → (A → List ℕ) → List A → List ℕ
joined g [] = []
joined g (x ∷ xs) = g x ++ joined g xs

-- xs, and past them what stood in a list
unfoldable pub over : List ℕ → List ℕ → List ℕ
over xs list = xs ++ drop (length xs) list
