-- Equal parts make equal effects. Assumes nothing.
use Rattle.std.proofs.Common.{◌≡◌, ℕ, ◌∙◌, ap₂}
use Rattle.predicates.specs.declared.Flags.{Flags}
use Rattle.predicates.specs.declared.Predicate.{Predicate}
use Rattle.predicates.specs.PredTest.{nzcv}
use Rattle.predicates.specs.Predicate.{all_false}
use Rattle.instructions.specs.declared.effect.Computed.{Computed}
use Rattle.instructions.specs.Effect.{gives_pf, gives_ppf, computed}

abbrev one : Predicate → ℕ → Computed
one q f = record { pd = q; pd2 = all_false; rd = 0; nzcv = f }

pub one_is : (e : Computed) (f : ℕ) (q u : Predicate) (flags : Flags) → e ≡ one q f → q ≡ u → f ≡ nzcv flags → e ≡ computed (gives_pf u flags)
one_is e f q u flags he hq hf = he ∙ ap₂ one hq hf

-- a pair: the second predicate beside the first and the flags
pub pair_is : (e : Computed) (f : ℕ) (q u o v : Predicate) (flags : Flags) → e ≡ one q f → q ≡ u → o ≡ v → f ≡ nzcv flags
    → record { pd = e.pd; pd2 = o; rd = e.rd; nzcv = e.nzcv } ≡ computed (gives_ppf u v flags)
pair_is e f q u o v flags he hq ho hf = ap₂ (λ (x : Computed) (y : Predicate). record { pd = x.pd; pd2 = y; rd = x.rd; nzcv = x.nzcv }) (one_is e f q u flags he hq hf) ho
