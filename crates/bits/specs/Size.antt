-- The four element sizes.
use Rattle.std.specs.Prelude.{ℕ}
use Rattle.bits.specs.declared.Size.{Size}
use Rattle.bits.specs.declared.Size.TheVariants.{B, H, S, D}

-- size 00 to 11: an element has 8 · 2 ^ shift bits of a vector, and 2 ^ shift bits of a predicate
abbrev pub shift : Size → ℕ
shift B = 0
shift H = 1
shift S = 2
shift D = 3
