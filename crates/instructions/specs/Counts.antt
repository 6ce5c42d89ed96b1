-- Counts of true elements: CNTP works one out, INCP, DECP and their saturating forms take the one that is kept.
use Rattle.std.specs.Prelude.{ℕ, ◌+◌, ◌-◌, ◌%◌, ◌^◌, Bool, ◌&&◌}
use Rattle.bits.specs.declared.Size.{Size}
use Rattle.bits.specs.Choice.{pick}
use Rattle.bits.specs.Search.{count}
use Rattle.bits.specs.Size.{shift}
use Rattle.predicates.specs.declared.Predicate.{Predicate}
use Rattle.predicates.specs.Predicate.{active, elements}
use Rattle.scalars.specs.Value.{width_of}
use Rattle.scalars.specs.Saturate.{saturating}
use Rattle.instructions.specs.Effect.{Effect, gives_x}

-- Pm's count as it is kept, n, added or subtracted modulo 2 ^ 64
unfoldable pub inc_dec_of : Bool → ℕ → ℕ → Effect
inc_dec_of decrement rdn n = gives_x (pick decrement ((rdn + (2 ^ 64 - n)) % 2 ^ 64) ((rdn + n) % 2 ^ 64))

-- the same, on the whole register or its low word, stopped at the ends of the range
unfoldable pub saturating_of : Bool → Bool → Bool → ℕ → ℕ → Effect
saturating_of decrement unsigned wide rdn n = gives_x (saturating (width_of wide) unsigned decrement rdn n)

-- the elements true in Pg and Pn
unfoldable pub cntp_of : Size → Predicate → Predicate → ℕ → Effect
cntp_of size pg pn vl = gives_x (count (λ e. active (shift size) pg e && active (shift size) pn e) (elements vl size))
