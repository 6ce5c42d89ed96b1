-- A predicate's bits and elements. An element of 2 ^ k bits belongs to the size whose `shift` is k.
use Rattle.std.specs.Prelude.{ℕ, ◌+◌, ◌*◌, ◌/◌, ◌%◌, ◌^◌, min, Bool, false, not, ◌&&◌, [], ◌∷◌, ltb, leb, get_or}
use Rattle.bits.specs.declared.Size.{Size}
use Rattle.bits.specs.Bits.{test_bit, number, element_bit}
use Rattle.bits.specs.Search.{some}
use Rattle.bits.specs.Size.{shift}
use Rattle.predicates.specs.declared.Predicate.{Predicate}

-- bit b of a predicate; 0 from bit 256 on
unfoldable pub bit_at : Predicate → ℕ → Bool
bit_at p b = test_bit (get_or p.words (b / 64) 0) (b % 64)

-- the predicate whose bits are f
unfoldable pub pack : (ℕ → Bool) → Predicate
pack f = record { words = number f 0 64 ∷ number f 64 64 ∷ number f 128 64 ∷ number f 192 64 ∷ [] }

-- the predicate with no bit set
abbrev pub all_false : Predicate
all_false = pack (λ b. false)

-- element e is active exactly if its lowest bit is 1
unfoldable pub active : ℕ → Predicate → ℕ → Bool
active k p e = bit_at p (e * 2 ^ k)

-- element e has a bit set
unfoldable pub touched : ℕ → Predicate → ℕ → Bool
touched k p e = some (λ i. bit_at p (e * 2 ^ k + i)) (2 ^ k)

-- elements as bits: the lowest bit of an element says whether it is active, its other bits are 0
unfoldable pub spread : ℕ → (ℕ → Bool) → ℕ → Bool
spread k q b = element_bit k b && q (b / 2 ^ k)

-- the elements from `from` on and below `to`
unfoldable pub between : ℕ → ℕ → ℕ → Bool
between from to e = leb from e && ltb e to

-- the predicate with those elements active and no other
abbrev pub span_of : ℕ → ℕ → ℕ → Predicate
span_of k from to = pack (spread k (between from to))

-- PL, the length of a predicate in bits: VL / 8. The bound is for illegal vector lengths alone.
unfoldable pub predicate_length : ℕ → ℕ
predicate_length vl = min (vl / 8) 256

-- E, the number of elements: VL / esize, which is PL / 2 ^ k
unfoldable pub elements : ℕ → Size → ℕ
elements vl size = predicate_length vl / 2 ^ shift size

-- the predicate with every element of a vector active
abbrev pub live_of : ℕ → Size → Predicate
live_of vl size = span_of (shift size) 0 (elements vl size)

-- whether some bit at or above pl is 1
unfoldable pub has_bit_from : ℕ → Predicate → Bool
has_bit_from pl p = some (λ b. leb pl b && bit_at p b) 256

-- a run of true bits from bit 0, empty or full ones included: no true bit lies above a false one. Arm calls such a predicate monotonic.
unfoldable pub monotonic : Predicate → Bool
monotonic p = not (some (λ b. bit_at p b && some (λ below. not (bit_at p below)) b) 256)
