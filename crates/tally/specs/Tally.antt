-- The numbers of true elements at the four sizes, in one number: sixteen bits for each size, B lowest. It is what the code goes by; a reader of the promises needs Counts alone.
use Rattle.std.specs.Prelude.{ℕ, ◌+◌, ◌*◌, ◌/◌, ◌%◌, ◌^◌, Bool, get_or}
use Rattle.bits.specs.Bits.{test_bit}
use Rattle.bits.specs.Choice.{pick}
use Rattle.bits.specs.Search.{count}
use Rattle.predicates.specs.declared.Predicate.{Predicate}
use Rattle.predicates.specs.Predicate.{active}
use Rattle.tally.specs.declared.Counts.{Counts}

-- four counts as one number
abbrev pub packed : ℕ → ℕ → ℕ → ℕ → ℕ
packed b h s d = b + h * 2 ^ 16 + s * 2 ^ 32 + d * 2 ^ 48

abbrev pub packed_of : Counts → ℕ
packed_of c = packed c.b c.h c.s c.d

-- the counts in such a number
abbrev pub counts_in : ℕ → Counts
counts_in x = record { b = x % 2 ^ 16; h = x / 2 ^ 16 % 2 ^ 16; s = x / 2 ^ 32 % 2 ^ 16; d = x / 2 ^ 48 % 2 ^ 16 }

-- how many elements of 2 ^ k bits are true, among n elements of the bits f
unfoldable pub true_of : ℕ → (ℕ → Bool) → ℕ → ℕ
true_of k f n = count (λ e. f (e * 2 ^ k)) n

-- the four counts of the bits f, n bytes of them
unfoldable pub tally : (ℕ → Bool) → ℕ → ℕ
tally f n = packed (true_of 0 f (n * 8)) (true_of 1 f (n * 4)) (true_of 2 f (n * 2)) (true_of 3 f (n * 1))

-- the four counts of a predicate
unfoldable pub tally_of : Predicate → ℕ
tally_of p = packed (count (active 0 p) 256) (count (active 1 p) 128) (count (active 2 p) 64) (count (active 3 p) 32)

-- the four counts of its first word
abbrev pub tally_low : Predicate → ℕ
tally_low p = tally (test_bit (get_or p.words 0 0)) 8

-- the four counts of a predicate, or those of its first word alone
abbrev pub tally_in : Bool → Predicate → ℕ
tally_in low p = pick low (tally_low p) (tally_of p)
