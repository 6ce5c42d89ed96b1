-- What the type of a predicate says: four words of 64 bits.
use Rattle.std.specs.Prelude.{ℕ, ◌^◌, ◌<◌, ◌≡◌, length, get_or}
use Rattle.predicates.specs.declared.Predicate.{Predicate}

pub record Words (p : Predicate) : Type 0 where
  pub four : length p.words ≡ 4
  pub fit : (i : ℕ) → get_or p.words i 0 < 2 ^ 64
