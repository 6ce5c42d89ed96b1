-- A predicate under a vector's elements: what the four counts are, and that its first word is enough up to 64 bits. Assumes nothing.
use mathlib.Core.Bool.{Bool, true, false, ◌&&◌, and-true, and-false}
use mathlib.Core.List.{[], ◌∷◌}
use mathlib.Core.Path.{◌≡◌, refl, sym, ap, ◌∙◌}
use Prim.Native.Nat.{ℕ, ◌+◌, ◌*◌, ◌/◌, ◌%◌, ◌^◌, ◌≤◌, ◌<◌}
use native.Mathlib.Nat.{mul-le-mul_right, mul-lt-mul_of_pos_right, le_trans, lt_of_lt_of_le, div-one, min-le_right}
use native.Mathlib.Omega.{arith}
use lib.Dec.{leb, ltb}
use lib.Pow.{pow_pos}
use borrow.Author.Tests.{lt-ltb, le-ltb, leb-true}
use Rattle.bits.specs.declared.Size.{Size}
use Rattle.bits.specs.declared.Size.TheVariants.{B, H, S, D}
use Rattle.bits.specs.Bits.{test_bit}
use Rattle.bits.specs.Search.{count}
use Rattle.bits.specs.Size.{shift}
use Rattle.bits.proofs.Searches.{count_cong, count_end_lem, count-le}
use Rattle.predicates.specs.declared.Predicate.{Predicate}
use Rattle.predicates.specs.Predicate.{bit_at, pack, active, has_bit_from, elements, live_of, predicate_length}
use Rattle.predicates.proofs.ElementBits.{byte-bit}
use Rattle.predicates.proofs.Live.{elements-le, elements-within}
use Rattle.predicates.proofs.Spans.{none_within, within_none}
use Rattle.predicates.proofs.Words.{word, pack-bit}
use Rattle.tally.specs.declared.Counts.{Counts}
use Rattle.tally.specs.Counts.{true_elements, counts_of}
use Rattle.tally.specs.declared.Planes.{Planes}
use Rattle.tally.specs.Planes.{planes_in, sums_of}
use Rattle.tally.specs.Tally.{packed, packed_of, counts_in, true_of, tally, tally_of, tally_low, tally_in}
use Rattle.tally.proofs.Total.{part, tally_in_lem}

-- ---- no bit at or above PL: the elements of a vector are all that count

within : (p : Predicate) (pl k n m : ℕ) → has_bit_from pl p ≡ false → pl ≤ n * 2 ^ k → n ≤ m → m * 2 ^ k ≤ 256 → count (active k p) m ≡ count (active k p) n
unfolding active
within p pl k n m h l g f =
    count_end_lem (λ e. bit_at p (e * 2 ^ k)) n m g
    (λ e a b. within_none pl p h (e * 2 ^ k) (le_trans l (mul-le-mul_right (2 ^ k) a)) (lt_of_lt_of_le (mul-lt-mul_of_pos_right b (pow_pos k)) f))

length-le : (vl : ℕ) → predicate_length vl ≤ 256
unfolding predicate_length
length-le vl = min-le_right (vl / 8) 256

tally_counts : (p : Predicate) (vl : ℕ) → predicate_length vl % 8 ≡ 0 → has_bit_from (predicate_length vl) p ≡ false → tally_of p ≡ packed_of (counts_of vl p)
unfolding tally_of counts_of elements
tally_counts p vl e h =
    let l = length-le vl in
    let a : count (active 0 p) 256 ≡ true_elements vl B p = within p (predicate_length vl) 0 (elements vl B) 256 h (omega arith) (omega arith) (omega arith) in
    let b : count (active 1 p) 128 ≡ true_elements vl H p = within p (predicate_length vl) 1 (elements vl H) 128 h (omega arith) (omega arith) (omega arith) in
    let c : count (active 2 p) 64 ≡ true_elements vl S p = within p (predicate_length vl) 2 (elements vl S) 64 h (omega arith) (omega arith) (omega arith) in
    let d : count (active 3 p) 32 ≡ true_elements vl D p = within p (predicate_length vl) 3 (elements vl D) 32 h (omega arith) (omega arith) (omega arith) in
    λ i. packed (a i) (b i) (c i) (d i)

-- the first word is enough up to 64 bits
first_word : (k n m : ℕ) (p : Predicate) (pl : ℕ) → has_bit_from pl p ≡ false → pl ≤ 64 → n * 2 ^ k ≡ 64 → n ≤ m → m * 2 ^ k ≤ 256
    → true_of k (test_bit (word p 0)) n ≡ count (active k p) m
first_word k n m p pl h l e g f =
    sym (within p pl k n m h (omega arith) g f ∙ count_cong _ _ n (λ i b. ap (active k p) (start i)) ∙ part k n p 0 0 e (omega arith))
  where
    start : (i : ℕ) → i ≡ 0 + i
    start i = omega arith

low_is : (p : Predicate) (pl : ℕ) → has_bit_from pl p ≡ false → pl ≤ 64 → tally_low p ≡ tally_of p
unfolding tally tally_of
low_is p pl h l =
    let a = first_word 0 64 256 p pl h l refl (omega arith) (omega arith) in
    let b = first_word 1 32 128 p pl h l refl (omega arith) (omega arith) in
    let c = first_word 2 16 64 p pl h l refl (omega arith) (omega arith) in
    let d = first_word 3 8 32 p pl h l refl (omega arith) (omega arith) in
    λ i. packed (a i) (b i) (c i) (d i)

-- the four counts, by the first word where PL is at most 64
pub tally_is : (p : Predicate) (vl : ℕ) (low : Bool) → predicate_length vl % 8 ≡ 0 → has_bit_from (predicate_length vl) p ≡ false → low ≡ leb (predicate_length vl) 64
    → tally_in low p ≡ packed_of (counts_of vl p)
tally_is p vl true e h l = low_is p (predicate_length vl) h (leb-true (predicate_length vl) 64 (sym l)) ∙ tally_counts p vl e h
tally_is p vl false e h l = tally_counts p vl e h

-- ---- a predicate under the elements of a vector

elements_bytes : (vl : ℕ) → elements vl B ≡ predicate_length vl
unfolding elements
elements_bytes vl = div-one (predicate_length vl)

abbrev under : ℕ → Predicate → ℕ → Bool
under vl p b = bit_at p b && bit_at (live_of vl B) b

under_is : (vl : ℕ) (p : Predicate) (b : ℕ) → b < 256 → under vl p b ≡ (bit_at p b && ltb b (predicate_length vl))
under_is vl p b h = ap (λ (x : Bool). bit_at p b && x) (byte-bit (elements vl B) b h ∙ ap (ltb b) (elements_bytes vl))

under_none : (vl : ℕ) (p : Predicate) → has_bit_from (predicate_length vl) (pack (under vl p)) ≡ false
under_none vl p =
    none_within (predicate_length vl) (under vl p)
    (λ b l h. under_is vl p b h ∙ ap (λ (x : Bool). bit_at p b && x) (le-ltb b (predicate_length vl) l) ∙ and-false (bit_at p b))

under_active : (vl : ℕ) (p : Predicate) (size : Size) (e : ℕ) → e < elements vl size → active (shift size) (pack (under vl p)) e ≡ active (shift size) p e
unfolding active
under_active vl p size e l =
    let b : ℕ = e * 2 ^ shift size in
    let m : b < predicate_length vl = lt_of_lt_of_le (mul-lt-mul_of_pos_right l (pow_pos (shift size))) (elements-within vl size) in
    let h : b < 256 = lt_of_lt_of_le m (length-le vl) in
    pack-bit (under vl p) b h ∙ under_is vl p b h ∙ ap (λ (x : Bool). bit_at p b && x) (lt-ltb b (predicate_length vl) m) ∙ and-true (bit_at p b)

under_elements : (vl : ℕ) (p : Predicate) (size : Size) → true_elements vl size (pack (under vl p)) ≡ true_elements vl size p
under_elements vl p size = count_cong _ _ (elements vl size) (under_active vl p size)

under_counts : (vl : ℕ) (p : Predicate) → counts_of vl (pack (under vl p)) ≡ counts_of vl p
unfolding counts_of
under_counts vl p =
    let b = under_elements vl p B in
    let h = under_elements vl p H in
    let s = under_elements vl p S in
    let d = under_elements vl p D in
    λ i. record { b = b i; h = h i; s = s i; d = d i }

-- ---- counts as one number, and back

pub elements_small : (vl : ℕ) (size : Size) (p : Predicate) → true_elements vl size p ≤ 256
elements_small vl size p = le_trans (count-le (active (shift size) p) (elements vl size)) (elements-le vl size)

-- four counts that fit
pub record Small (c : Counts) : Type 0 where
  pub b : c.b < 65536
  pub h : c.h < 65536
  pub s : c.s < 65536
  pub d : c.d < 65536

pub counts_small : (vl : ℕ) (p : Predicate) → Small (counts_of vl p)
unfolding counts_of
counts_small vl p =
    record {
      b = omega (arith, elements_small vl B p);
      h = omega (arith, elements_small vl H p);
      s = omega (arith, elements_small vl S p);
      d = omega (arith, elements_small vl D p);
    }

field_b : (b h s d : ℕ) → b < 65536 → packed b h s d % 65536 ≡ b
field_b b h s d l = omega arith

field_h : (b h s d : ℕ) → b < 65536 → h < 65536 → packed b h s d / 65536 % 65536 ≡ h
field_h b h s d l m = omega arith

field_s : (b h s d : ℕ) → b < 65536 → h < 65536 → s < 65536 → packed b h s d / 4294967296 % 65536 ≡ s
field_s b h s d l m n = omega arith

field_d : (b h s d : ℕ) → b < 65536 → h < 65536 → s < 65536 → d < 65536 → packed b h s d / 281474976710656 % 65536 ≡ d
field_d b h s d l m n o = omega arith

pub packed_back : (c : Counts) → Small c → counts_in (packed_of c) ≡ c
packed_back c l =
    let b = field_b c.b c.h c.s c.d l.b in
    let h = field_h c.b c.h c.s c.d l.b l.h in
    let s = field_s c.b c.h c.s c.d l.b l.h l.s in
    let d = field_d c.b c.h c.s c.d l.b l.h l.s l.d in
    λ i. record { b = b i; h = h i; s = s i; d = d i }

-- ---- the counts of a predicate, as the code works them out

pub counted_is : (p l q : Predicate) (vl pl x : ℕ) (low : Bool) (y : Planes) (r : Counts) → pl ≡ predicate_length vl → pl % 8 ≡ 0 → low ≡ leb pl 64 → l ≡ live_of vl B → q ≡ pack (λ b. bit_at p b && bit_at l b)
    → y ≡ planes_in low q → x ≡ sums_of y → r ≡ counts_in x → r ≡ counts_of vl p
counted_is p l q vl pl x low y r hp he hl hv hm hy hs hr =
    let hx : x ≡ tally_in low q = tally_in_lem low q y x hy hs in
    let hq : q ≡ pack (under vl p) = hm ∙ ap (λ (m : Predicate). pack (λ b. bit_at p b && bit_at m b)) hv in
    let none : has_bit_from (predicate_length vl) q ≡ false = ap (has_bit_from (predicate_length vl)) hq ∙ under_none vl p in
    hr ∙ ap counts_in (hx ∙ tally_is q vl low (ap (λ (n : ℕ). n % 8) (sym hp) ∙ he) none (hl ∙ ap (λ (n : ℕ). leb n 64) hp))
    ∙ packed_back (counts_of vl q) (counts_small vl q) ∙ ap (counts_of vl) hq ∙ under_counts vl p

-- a case in numbers: bits 0, 4, 5 and 8 set
pub instance_is : tally_of (record { words = 305 ∷ 0 ∷ 0 ∷ 0 ∷ [] }) ≡ packed 4 3 3 2
unfolding tally_of count active bit_at test_bit
instance_is = refl
