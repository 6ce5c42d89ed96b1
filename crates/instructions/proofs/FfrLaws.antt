-- What the forms on FFR give has no bit at or above PL, what SETFFR gives is a run of ones, and WRFFR alone refuses values. Assumes nothing.
use Rattle.std.proofs.Common.{◌≡◌, ℕ, Bool, true, false, ◌&&◌, ltb, sym, refl, ap, ◌∙◌, mul-one, div-one, le-ltb}
use Rattle.bits.specs.declared.Size.TheVariants as Sz
use Rattle.bits.proofs.Searches.{never}
use Rattle.predicates.specs.declared.Predicate.{Predicate}
use Rattle.predicates.specs.Predicate.{bit_at, pack, spread, between, span_of, predicate_length, elements, live_of, has_bit_from, monotonic}
use Rattle.predicates.proofs.ElementBits.{spread_at, between-from-zero}
use Rattle.predicates.proofs.Monotonic.{run-monotonic}
use Rattle.predicates.proofs.Spans.{none_within, within_none, false-within}
use Rattle.predicates.proofs.Words.{pack_cong}
use Rattle.words.specs.declared.Instruction.{Instruction}
use Rattle.words.specs.declared.Instruction.TheVariants.{While, Saturating, IncDec, Cntp, CntpCounter, Pnext, Pfirst, Ptest, Pfalse, Logic, Setffr, Wrffr, Rdffr, RdffrPg, RdffrsPg}
use Rattle.instructions.specs.declared.operands.Values.{Values}
use Rattle.instructions.specs.Ffr.{setffr_of, under_mask, accepts}

-- a byte element is one bit
pub live_bits : (vl : ℕ) → live_of vl Sz.B ≡ pack (λ b. ltb b (predicate_length vl))
unfolding elements
live_bits vl =
    ap (λ (n : ℕ). span_of 0 0 n) (div-one (predicate_length vl))
    ∙ pack_cong _ _ (λ b l. ap (spread 0 (between 0 (predicate_length vl))) (sym (mul-one b)) ∙ spread_at 0 (between 0 (predicate_length vl)) b ∙ between-from-zero (predicate_length vl) b)

pub set-within : (vl : ℕ) → has_bit_from (predicate_length vl) (setffr_of vl).pd ≡ false
unfolding setffr_of
set-within vl = none_within (predicate_length vl) _ (λ b l k. le-ltb b (predicate_length vl) l)

pub set_alone : (vl : ℕ) → has_bit_from (predicate_length vl) (setffr_of vl).pd2 ≡ false
unfolding setffr_of
set_alone vl = false-within (predicate_length vl)

-- it is one that WRFFR takes
pub set-monotonic : (vl : ℕ) → monotonic (setffr_of vl).pd ≡ true
unfolding setffr_of
set-monotonic vl = run-monotonic (predicate_length vl)

pub mask_within : (pl : ℕ) (pg ffr : Predicate) → has_bit_from pl pg ≡ false → has_bit_from pl (under_mask pg ffr) ≡ false
unfolding under_mask
mask_within pl pg ffr h = none_within pl _ (λ b l k. ap (λ (t : Bool). t && bit_at ffr b) (within_none pl pg h b l k))

-- an instruction that refuses its values is a WRFFR, whose predicate is no run of ones
pub refuses : (i : Instruction) (v : Values) → accepts i v ≡ false → (pn : ℕ) × (i ≡ Wrffr pn) × (monotonic v.pn ≡ false)
refuses (While c u t size rn rm) v h = never refl h
refuses (Saturating d u sf size pm rdn) v h = never refl h
refuses (IncDec d size pm rdn) v h = never refl h
refuses (Cntp size pg pn rd) v h = never refl h
refuses (CntpCounter four size pnn rd) v h = never refl h
refuses (Pnext size pv pdn) v h = never refl h
refuses (Pfirst pg pdn) v h = never refl h
refuses (Ptest pg pn) v h = never refl h
refuses (Pfalse pd) v h = never refl h
refuses (Logic o s pm pg pn pd) v h = never refl h
refuses Setffr v h = never refl h
refuses (Wrffr pn) v h = (pn, refl, h)
refuses (Rdffr pd) v h = never refl h
refuses (RdffrPg pg pd) v h = never refl h
refuses (RdffrsPg pg pd) v h = never refl h
