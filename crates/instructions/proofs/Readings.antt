-- At the vector length that it was written at, a counter that WHILE writes reads alike whether its count ends at the highest set bit of 4 PL or at bit 14.
-- The reading up to bit 14 is stated for these theorems alone. Assumes nothing.
use Rattle.std.proofs.Common.{◌≡◌, ℕ, suc, ◌+◌, ◌-◌, ◌*◌, ◌/◌, ◌%◌, ◌^◌, ◌<◌, ◌≤◌, Bool, true, false, ◌&&◌, ltb, sym, refl, ap, ◌∙◌, lt_of_lt_of_le, mul_assoc, mul-lt-mul_of_pos_right, pow-suc, arith, pow_pos, pow_mono, pow-add, w64, ne_eqb}
use lib.Pow.{high}
use Rattle.bits.specs.declared.Size.{Size}
use Rattle.bits.specs.declared.Size.TheVariants as Sz
use Rattle.bits.specs.Bits.{test_bit, number, element_bit}
use Rattle.bits.specs.Choice.{digit}
use Rattle.bits.specs.Search.{count, after_last, scan}
use Rattle.bits.specs.Size.{shift}
use Rattle.bits.proofs.Bits.{number-padded, test_bit-zero}
use Rattle.bits.proofs.Counts.{last_of_power}
use Rattle.bits.proofs.Searches.{never}
use Rattle.bits.proofs.Sizes.{power_parts}
use Rattle.predicates.specs.declared.Predicate.{Predicate}
use Rattle.predicates.specs.Predicate.{bit_at, pack, spread, predicate_length, elements}
use Rattle.predicates.proofs.Lengths.{length_quads}
use Rattle.predicates.proofs.Live.{elements-within}
use Rattle.predicates.proofs.Words.{pack-bit}
use Rattle.scalars.specs.declared.Condition.{Condition}
use Rattle.scalars.specs.While.{upward, comparison, all_held}
use Rattle.instructions.specs.Counter.{group_of, counter_of, mark_of, count_end, counter_element, expanded, while_counter_of, cntp_counter_of}
use Rattle.instructions.specs.Readings.{expanded_to14, written}
use Rattle.instructions.proofs.CounterLaws.{group_most, counter_cases, count_end_le}
use Rattle.instructions.proofs.WhileLaws.{held-le}

-- ---- any predicate with no bit between the count's end and 15

pub clear_alike : (vl : ℕ) (p : Predicate) → ((b : ℕ) → count_end vl < b → b < 15 → bit_at p b ≡ false) → (b : ℕ) → expanded_to14 vl p b ≡ expanded vl p b
unfolding expanded expanded_to14
clear_alike vl p clear b =
    let j = mark_of p in
    ap (λ (n : ℕ). ltb j 4 && spread j (counter_element vl j (bit_at p 15) n) b)
    (number-padded (bit_at p) (suc j) (count_end vl - j) (14 - j) (omega (arith, count_end_le vl)) (λ i l h. clear (suc j + i) (omega arith) (omega arith)))

-- ---- where the count ends: bit 6 at VL 128, and one bit higher for each doubling

four_lengths : (i : ℕ) → i ≤ 4 → 4 * predicate_length (128 * 2 ^ i) ≡ 2 ^ (6 + i)
four_lengths i h = ap (λ (x : ℕ). 4 * x) (length_quads (2 ^ i) (pow_mono {i = i} {j = 4} h)) ∙ omega (arith, pow-add 2 6 i)

pub end_at : (i : ℕ) → i ≤ 4 → count_end (128 * 2 ^ i) ≡ 6 + i
unfolding count_end
end_at i h = ap (λ (x : ℕ). after_last (test_bit x) 64 - 1) (four_lengths i h) ∙ ap (λ (x : ℕ). x - 1) (last_of_power (6 + i) 64 (omega arith)) ∙ omega arith

-- ---- a counter of n elements, as WHILE writes it

-- a number below 2 ^ (e + 1) has no bit above e, with bit 15 or without
clear_between : (inverted : Bool) (v e b : ℕ) → v < 2 ^ suc e → e < b → b < 15 → test_bit (digit inverted * 2 ^ 15 + v) b ≡ false
unfolding test_bit
clear_between inverted v e b h l m =
    let parts : digit inverted * 2 ^ 15 ≡ digit inverted * 2 ^ (15 - b) * 2 ^ b =
    ap (λ (x : ℕ). digit inverted * x) (sym (power_parts b 15 (omega arith))) ∙ sym (mul_assoc (digit inverted) (2 ^ (15 - b)) (2 ^ b)) in
    let small : v < 2 ^ b = lt_of_lt_of_le h (pow_mono {i = suc e} {j = b} l) in
    let quotient : (digit inverted * 2 ^ 15 + v) / 2 ^ b ≡ digit inverted * 2 ^ (15 - b) = ap (λ (x : ℕ). (x + v) / 2 ^ b) parts ∙ high (digit inverted * 2 ^ (15 - b)) b small in
    ne_eqb ((digit inverted * 2 ^ 15 + v) / 2 ^ b % 2) 1 (λ odd. even inverted (15 - b) (omega arith) (sym (ap (λ (x : ℕ). x % 2) quotient) ∙ odd))
  where
    even : (t : Bool) (k : ℕ) → 0 < k → digit t * 2 ^ k % 2 ≡ 1 → ⊥
    even true k h odd = let e : k ≡ suc (k - 1) = omega arith in omega (arith, ap (λ (x : ℕ). 2 ^ x) e, pow-suc 2 (k - 1))
    even false k h odd = omega arith

written_clear : (i : ℕ) → i ≤ 4 → (up four : Bool) (size : Size) (n : ℕ) → n ≤ group_of four (elements (128 * 2 ^ i) size)
    → (b : ℕ) → 6 + i < b → b < 15 → bit_at (written up four size n (128 * 2 ^ i)) b ≡ false
written_clear i h up four size n upto b l m =
    let e = elements (128 * 2 ^ i) size in
    let k = shift size in
    pack-bit _ b (omega arith)
    ∙ counter_cases (λ w. test_bit w b ≡ false) up (group_of four e) n k upto (test_bit-zero b)
    (λ inverted c small. clear_between inverted ((c * 2 + 1) * 2 ^ k) (6 + i) b
    (let fits : (c * 2 + 1) * 2 ^ k < 8 * e * 2 ^ k = mul-lt-mul_of_pos_right (omega (arith, group_most four e)) (pow_pos k) in
    omega (arith, mul_assoc 8 e (2 ^ k), elements-within (128 * 2 ^ i) size, four_lengths i h, pow-suc 2 (6 + i))) l m)

-- over direction, group, size, count and vector length: each bit of the one expansion is that of the other
pub written_alike : (i : ℕ) → i ≤ 4 → (up four : Bool) (size : Size) (n : ℕ) → n ≤ group_of four (elements (128 * 2 ^ i) size)
    → (b : ℕ) → expanded_to14 (128 * 2 ^ i) (written up four size n (128 * 2 ^ i)) b ≡ expanded (128 * 2 ^ i) (written up four size n (128 * 2 ^ i)) b
written_alike i h up four size n upto =
    clear_alike (128 * 2 ^ i) (written up four size n (128 * 2 ^ i)) (λ b l m. written_clear i h up four size n upto b (omega (arith, end_at i h)) m)

-- and so for what a WHILE gives, whatever its operands
pub while_alike : (i : ℕ) → i ≤ 4 → (c : Condition) (unsigned four : Bool) (size : Size) (rn rm b : ℕ)
    → expanded_to14 (128 * 2 ^ i) (while_counter_of c unsigned four size rn rm (128 * 2 ^ i)).pd b ≡ expanded (128 * 2 ^ i) (while_counter_of c unsigned four size rn rm (128 * 2 ^ i)).pd b
unfolding while_counter_of
while_alike i h c unsigned four size rn rm =
    let g = group_of four (elements (128 * 2 ^ i) size) in
    let held = comparison w64 unsigned c rn rm in
    written_alike i h (upward c) four size (count (all_held held) g) (held-le held g)

-- ---- 0081: a WHILE writes it at VL 256, and it reads alike there; at VL 128 it does not, and so no WHILE writes it

abbrev junk : Predicate
junk = pack (test_bit 0x81)

writes_junk : written true true Sz.B 64 256 ≡ junk
unfolding test_bit number pack counter_of elements predicate_length
writes_junk = refl

alike_at_256 : (b : ℕ) → expanded_to14 256 junk b ≡ expanded 256 junk b
unfolding elements predicate_length
alike_at_256 b = rw (← writes_junk) (written_alike 1 (omega arith) true true Sz.B 64 (omega arith) b)

cntp-of_junk : (cntp_counter_of true Sz.B junk 128).rd ≡ 0
unfolding cntp_counter_of expanded count_end count after_last scan test_bit number element_bit bit_at pack spread elements predicate_length
cntp-of_junk = refl

cntp-of_junk_to_14 : count (λ e. expanded_to14 128 junk (e * 2 ^ shift Sz.B)) (group_of true (elements 128 Sz.B)) ≡ 64
unfolding expanded_to14 count scan test_bit number element_bit bit_at pack spread elements predicate_length
cntp-of_junk_to_14 = refl

apart_at_128 : (expanded_to14 128 junk 0 ≡ true) × (expanded 128 junk 0 ≡ false)
unfolding expanded_to14 expanded count_end after_last scan test_bit number element_bit bit_at pack spread predicate_length
apart_at_128 = (refl, refl)

unwritten_at_128 : (up four : Bool) (size : Size) (n : ℕ) → n ≤ group_of four (elements 128 size) → written up four size n 128 ≡ junk → ⊥
unwritten_at_128 up four size n upto e =
    let alike = written_alike 0 (omega arith) up four size n upto 0 in
    never (sym (ap (λ (p : Predicate). expanded 128 p 0) e) ∙ sym alike ∙ ap (λ (p : Predicate). expanded_to14 128 p 0) e ∙ apart_at_128.0) apart_at_128.1

-- ---- the lengths are 128 times a power of two: at VL 384, of 192 elements, 128 read as none

apart_at_384 : (expanded_to14 384 (written true true Sz.B 128 384) 0 ≡ true) × (expanded 384 (written true true Sz.B 128 384) 0 ≡ false)
unfolding expanded_to14 expanded count_end counter_of after_last scan test_bit number element_bit bit_at pack spread elements predicate_length
apart_at_384 = (refl, refl)
