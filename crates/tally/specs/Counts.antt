-- The numbers of true elements that are kept beside a predicate register.
use Rattle.std.specs.Prelude.{ℕ, Bool, ◌&&◌, eqb}
use Rattle.bits.specs.declared.Size.{Size}
use Rattle.bits.specs.declared.Size.TheVariants.{B, H, S, D}
use Rattle.bits.specs.Search.{count}
use Rattle.bits.specs.Size.{shift}
use Rattle.predicates.specs.declared.Predicate.{Predicate}
use Rattle.predicates.specs.Predicate.{active, elements}
use Rattle.tally.specs.declared.Counts.{Counts}

-- how many of a vector's elements are true
abbrev pub true_elements : ℕ → Size → Predicate → ℕ
true_elements vl size p = count (active (shift size) p) (elements vl size)

-- the same at each of the four sizes
unfoldable pub counts_of : ℕ → Predicate → Counts
counts_of vl p = record { b = true_elements vl B p; h = true_elements vl H p; s = true_elements vl S p; d = true_elements vl D p }

-- those of a predicate with no bit set
abbrev pub no_counts : Counts
no_counts = record { b = 0; h = 0; s = 0; d = 0 }

-- the count at a size
abbrev pub count_at : Size → Counts → ℕ
count_at B c = c.b
count_at H c = c.h
count_at S c = c.s
count_at D c = c.d

-- whether the counts are the same at every size
unfoldable pub same_counts : Counts → Counts → Bool
same_counts c k = eqb c.b k.b && (eqb c.h k.h && (eqb c.s k.s && eqb c.d k.d))
