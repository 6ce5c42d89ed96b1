-- Logic on predicates: operations on whole words are the operation on each bit. Shown once over the operation. Assumes nothing.
use Rattle.std.proofs.Common.{◌≡◌, ℕ, ◌<◌, Bool, true, false, not, ◌&&◌, ◌||◌, sym, refl, ap, ◌∙◌, ap₂, true≢false}
use mathlib.Core.Bool.{xor, and-true, and-false, or-false, false≢true}
use Rattle.bits.specs.declared.Size.TheVariants as Sz
use Rattle.bits.specs.Choice.{pick}
use Rattle.predicates.specs.declared.Predicate.{Predicate}
use Rattle.predicates.specs.Predicate.{bit_at, pack, all_false, active, elements, live_of, has_bit_from}
use Rattle.predicates.specs.PredTest.{pred_test, nzcv}
use Rattle.predicates.proofs.Live.{test_live}
use Rattle.predicates.proofs.Spans.{none_within, within_none}
use Rattle.predicates.proofs.Words.{pack-bit, pack_cong}
use Rattle.words.specs.declared.Operation.{Operation}
use Rattle.words.specs.declared.Operation.TheVariants.{And, Bic, Eor, Sel, Orr, Orn, Nor, Nand}
use Rattle.instructions.specs.declared.effect.Computed.{Computed}
use Rattle.instructions.specs.Effect.{no_flags, computed}
use Rattle.instructions.specs.Logic.{logic_bit, logic_result, logic_of}
use Rattle.instructions.proofs.Effects.{one_is}

-- a bit of the result
pub logic-bit : (o : Operation) (g n m : Predicate) (b : ℕ) → b < 256 → bit_at (logic_result o g n m) b ≡ logic_bit o (bit_at g b) (bit_at n b) (bit_at m b)
unfolding logic_result
logic-bit o g n m b h = pack-bit (λ i. logic_bit o (bit_at g i) (bit_at n i) (bit_at m i)) b h

-- where neither Pg nor Pm has a bit there is none
masked_off : (o : Operation) (n : Bool) → logic_bit o false n false ≡ false
masked_off And n = refl
masked_off Bic n = refl
masked_off Eor n = refl
masked_off Sel n = refl
masked_off Orr n = refl
masked_off Orn n = refl
masked_off Nor n = refl
masked_off Nand n = refl

-- so there is none at or above PL
pub logic-within : (o : Operation) (pl : ℕ) (g n m : Predicate) → has_bit_from pl g ≡ false → has_bit_from pl m ≡ false → has_bit_from pl (logic_result o g n m) ≡ false
unfolding logic_result
logic-within o pl g n m hg hm =
    none_within pl _ (λ b l k. ap₂ (λ (x y : Bool). logic_bit o x (bit_at n b) y) (within_none pl g hg b l k) (within_none pl m hm b l k) ∙ masked_off o (bit_at n b))

-- ---- an operation on words after another

bit-of : (F : ℕ → Bool) (u : Predicate) (b : ℕ) → u ≡ pack F → b < 256 → bit_at u b ≡ F b
bit-of F u b e l = ap (λ (x : Predicate). bit_at x b) e ∙ pack-bit F b l

-- f of Pn and Pm, then h of Pg and that
abbrev Chosen : Operation → (Bool → Bool → Bool) → (Bool → Bool → Bool) → Type 0
Chosen p f h =
    (o : Operation) (g n m u v : Predicate) → o ≡ p → u ≡ pack (λ b. f (bit_at n b) (bit_at m b)) → v ≡ pack (λ b. h (bit_at g b) (bit_at u b)) → v ≡ logic_result o g n m

chosen : (p : Operation) (f h : Bool → Bool → Bool) → ((g n m : Bool) → h g (f n m) ≡ logic_bit p g n m) → Chosen p f h
unfolding logic_result
chosen p f h law o g n m u v e hu hv =
    hv
    ∙ pack_cong _ _ (λ b l. ap (h (bit_at g b)) (bit-of _ u b hu l) ∙ law (bit_at g b) (bit_at n b) (bit_at m b))
    ∙ ap (λ (q : Operation). logic_result q g n m) (sym e)

-- the same of Pn and Pm inverted
abbrev Inverted : Operation → (Bool → Bool → Bool) → (Bool → Bool → Bool) → Type 0
Inverted p f h =
    (o : Operation) (g n m i u v : Predicate) → o ≡ p → i ≡ pack (λ b. not (bit_at m b)) → u ≡ pack (λ b. f (bit_at n b) (bit_at i b)) → v ≡ pack (λ b. h (bit_at g b) (bit_at u b))
    → v ≡ logic_result o g n m

inverted : (p : Operation) (f h : Bool → Bool → Bool) → ((g n m : Bool) → h g (f n (not m)) ≡ logic_bit p g n m) → Inverted p f h
inverted p f h law o g n m i u v e hi hu hv =
    chosen p (λ x y. f x (not y)) h law o g n m u v e (hu ∙ pack_cong _ _ (λ b l. ap (f (bit_at n b)) (bit-of _ i b hi l))) hv

-- ---- the eight operations

pub and_words : Chosen And ◌&&◌ ◌&&◌
and_words = chosen And ◌&&◌ ◌&&◌ (λ g n m. refl)

pub bic_words : Inverted Bic ◌&&◌ ◌&&◌
bic_words = inverted Bic ◌&&◌ ◌&&◌ (λ g n m. refl)

pub eor_words : Chosen Eor xor ◌&&◌
eor_words = chosen Eor xor ◌&&◌ (λ g n m. refl)

pub orr_words : Chosen Orr ◌||◌ ◌&&◌
orr_words = chosen Orr ◌||◌ ◌&&◌ (λ g n m. refl)

pub orn_words : Inverted Orn ◌||◌ ◌&&◌
orn_words = inverted Orn ◌||◌ ◌&&◌ (λ g n m. refl)

pub nor_words : Chosen Nor ◌||◌ (λ g u. g && not u)
nor_words = chosen Nor ◌||◌ (λ g u. g && not u) (λ g n m. refl)

pub nand_words : Chosen Nand ◌&&◌ (λ g u. g && not u)
nand_words = chosen Nand ◌&&◌ (λ g u. g && not u) (λ g n m. refl)

selected : (g n m : Bool) → ((g && n) || (m && not g)) ≡ pick g n m
selected true n m = ap (λ (x : Bool). n || x) (and-false m) ∙ or-false n
selected false n m = and-true m

pub sel_words : (o : Operation) (g n m u w v : Predicate) → o ≡ Sel → u ≡ pack (λ b. bit_at g b && bit_at n b) → w ≡ pack (λ b. bit_at m b && not (bit_at g b))
    → v ≡ pack (λ b. bit_at u b || bit_at w b) → v ≡ logic_result o g n m
unfolding logic_result
sel_words o g n m u w v e hu hw hv =
    hv
    ∙ pack_cong _ _ (λ b l. ap₂ ◌||◌ (bit-of _ u b hu l) (bit-of _ w b hw l) ∙ selected (bit_at g b) (bit_at n b) (bit_at m b))
    ∙ ap (λ (q : Operation). logic_result q g n m) (sym e)

-- ---- the effect, with flags and without

abbrev gives : Predicate → ℕ → Computed
gives q f = record { pd = q; pd2 = all_false; rd = 0; nzcv = f }

pub flags_kept : (o : Operation) (s : Bool) (g n m q : Predicate) (vl : ℕ) (e : Computed) → not s ≡ true → q ≡ logic_result o g n m → e ≡ gives q 0 → e ≡ computed (logic_of o s g n m vl)
unfolding logic_of nzcv
flags_kept o false g n m q vl e h hq he = one_is e 0 q (logic_result o g n m) no_flags he hq refl
flags_kept o true g n m q vl e h hq he = absurd (false≢true h)

pub flags_set : (o : Operation) (s : Bool) (g n m q l w : Predicate) (vl f : ℕ) (e : Computed) → not s ≡ false → q ≡ logic_result o g n m → l ≡ live_of vl Sz.B
    → w ≡ pack (λ b. bit_at g b && bit_at l b) → f ≡ nzcv (pred_test (bit_at w) (bit_at q) 256) → e ≡ gives q f → e ≡ computed (logic_of o s g n m vl)
unfolding logic_of
flags_set o false g n m q l w vl f e h hq hl hw hf he = absurd (true≢false h)
flags_set o true g n m q l w vl f e h hq hl hw hf he =
    one_is e f q (logic_result o g n m) _ he hq
    (hf
    ∙ ap nzcv (test_live vl Sz.B g w (hw ∙ ap (λ (x : Predicate). pack (λ b. bit_at g b && bit_at x b)) hl) q)
    ∙ ap (λ (x : Predicate). nzcv (pred_test (active 0 g) (active 0 x) (elements vl Sz.B))) hq)
