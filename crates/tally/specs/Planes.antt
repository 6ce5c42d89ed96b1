-- Bytes of words, and sums of them, as the code adds them up; a reader of the promises needs Counts alone.
use Rattle.std.specs.Prelude.{ℕ, zero, suc, ◌+◌, ◌*◌, ◌/◌, ◌%◌, Bool, get_or}
use Rattle.bits.specs.Choice.{pick}
use Rattle.predicates.specs.declared.Predicate.{Predicate}
use Rattle.tally.specs.declared.Planes.{Planes}
use Rattle.tally.specs.Tally.{packed}

-- bits 0 and 4 of each of m bytes, added over four words: the sums of bits 0 in a byte's low half, of bits 4 in its high half
unfoldable pub plane : ℕ → ℕ → ℕ → ℕ → ℕ → ℕ
plane zero a b c d = 0
plane (suc m) a b c d =
    plane m (a / 256) (b / 256) (c / 256) (d / 256) * 256 + ((a % 2 + b % 2 + c % 2 + d % 2) + (a / 16 % 2 + b / 16 % 2 + c / 16 % 2 + d / 16 % 2) * 16)

-- the low halves of m bytes
unfoldable pub lows : ℕ → ℕ → ℕ
lows zero x = 0
lows (suc m) x = lows m (x / 256) * 256 + x % 16

-- the sum of eight bytes, where it is below 256
abbrev pub byte_sum : ℕ → ℕ
byte_sum x = (x % 4294967296 + x / 4294967296) * 16843009 / 16777216 % 256

-- the sum of the low halves of m bytes
unfoldable pub low_sum : ℕ → ℕ → ℕ
low_sum zero x = 0
low_sum (suc m) x = low_sum m (x / 256) + x % 16

-- bits 0 and 2 of each of m halves of bytes, added over two words in fields of two bits
unfoldable pub fields : ℕ → ℕ → ℕ → ℕ
fields zero a b = 0
fields (suc m) a b = fields m (a / 16) (b / 16) * 16 + ((a % 2 + b % 2) + (a / 4 % 2 + b / 4 % 2) * 4)

-- ---- of the words of a predicate

-- the bits 0 and 4, the bits 2 and 6, and the odd bits
abbrev pub planes_of : ℕ → ℕ → ℕ → ℕ → Planes
planes_of a b c d = record {
  fours = plane 8 a b c d;
  twos = plane 8 (a / 4) (b / 4) (c / 4) (d / 4);
  odds = plane 8 (a / 2) (b / 2) (c / 2) (d / 2) + plane 8 (a / 8) (b / 8) (c / 8) (d / 8);
}

-- of a predicate, or of its first word alone
abbrev pub planes_in : Bool → Predicate → Planes
planes_in low p = pick low (planes_of (get_or p.words 0 0) 0 0 0) (planes_of (get_or p.words 0 0) (get_or p.words 1 0) (get_or p.words 2 0) (get_or p.words 3 0))

-- the four counts: at D bit 0 of a byte counts, at S bits 0 and 4, at H bits 2 and 6 too, at B all
abbrev pub sums_of : Planes → ℕ
sums_of x =
    let d = low_sum 8 x.fours in
    let s = d + low_sum 8 (x.fours / 16) in
    let h = s + (low_sum 8 x.twos + low_sum 8 (x.twos / 16)) in
    packed (h + (low_sum 8 x.odds + low_sum 8 (x.odds / 16))) h s d
