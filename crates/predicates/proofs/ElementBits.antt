-- Elements and the bits that stand for them, over elements of 2 ^ k bits. Assumes nothing.
use mathlib.Core.Bool.{Bool, true, false, not, ◌&&◌, and-true, and-false}
use mathlib.Core.Path.{◌≡◌, refl, sym, ap, ap₂, ◌∙◌}
use Prim.Native.Nat.{ℕ, zero, suc, ◌+◌, ◌-◌, ◌*◌, ◌/◌, ◌%◌, ◌^◌, ◌≤◌, ◌<◌, min, max}
use native.Mathlib.Decide.{dec_lt, ℕ_discrete}
use native.Mathlib.Nat.{mul-mod_left, mul_assoc, zero-mul, suc-mul, mod-lt, div-eq_of_lt, max-eq_left, max-eq_right, div-add-mod', div-lt_iff_lt-mul, div-le_self, div-one, mod-one, add-zero, zero-add, mul-lt-mul_of_pos_right, mul-le-mul_left, mul-le-mul_right, div-mul-le_self, le-div_iff_mul-le, le_trans, lt_of_lt_of_le}
use native.Mathlib.Omega.{arith}
use lib.Arith.{digits_mod}
use lib.Bits.{bit_and}
use lib.Dec.{ltb, leb, eqb, leb-zero}
use lib.Pow.{pow_pos, ones_lt, shl-shr, split, high}
use borrow.Author.Tests.{lt-ltb, le-ltb, le-leb, lt-leb, eq-eqb, ne_eqb, eqb-true}
use Rattle.bits.specs.Bits.{number, below, element_bit}
use Rattle.bits.specs.Choice.{digit}
use Rattle.bits.specs.Search.{count, some, first_from}
use Rattle.bits.proofs.Bits.{number-and, number_cong}
use Rattle.bits.proofs.Searches.{never, First, first_found, first_is, first_end, some_cong, count_cong, count_low, count_add, count_none}
use Rattle.bits.proofs.Sizes.{element_again, power_parts}
use Rattle.predicates.specs.declared.Predicate.{Predicate}
use Rattle.predicates.specs.Predicate.{bit_at, pack, active, spread, between, span_of, has_bit_from}
use Rattle.predicates.specs.Words.{Words}
use Rattle.predicates.proofs.Words.{bit_past, pack-bit, pack_cong}

-- ---- an element's lowest bit

pub element_start : (k e : ℕ) → element_bit k (e * 2 ^ k) ≡ true
unfolding element_bit
element_start k e = eq-eqb _ 0 (mul-mod_left e (2 ^ k))

-- a bit that is the lowest of its element
pub start_of : (k b : ℕ) → element_bit k b ≡ true → b / 2 ^ k * 2 ^ k ≡ b
unfolding element_bit
start_of k b h =
    let e : b % 2 ^ k ≡ 0 = eqb-true (b % 2 ^ k) 0 h in
    sym (add-zero (b / 2 ^ k * 2 ^ k)) ∙ ap (λ (x : ℕ). b / 2 ^ k * 2 ^ k + x) (sym e) ∙ div-add-mod' b (2 ^ k)

-- what holds of an element's lowest bit, at the bits that elements start at
pub at_start : (k : ℕ) (f : ℕ → Bool) (b : ℕ) → (element_bit k b && f (b / 2 ^ k * 2 ^ k)) ≡ (element_bit k b && f b)
at_start k f b = at (element_bit k b) refl
  where
    at : (t : Bool) → element_bit k b ≡ t → (t && f (b / 2 ^ k * 2 ^ k)) ≡ (t && f b)
    at false e = refl
    at true e = ap f (start_of k b e)

pub spread_at : (k : ℕ) (q : ℕ → Bool) (e : ℕ) → spread k q (e * 2 ^ k) ≡ q e
unfolding spread
spread_at k q e = ap₂ (λ (x : Bool) (y : ℕ). x && q y) (element_start k e) (shl-shr e k)

-- the active elements of a predicate that was made of elements
pub active-pack : (k : ℕ) (q : ℕ → Bool) (e : ℕ) → e * 2 ^ k < 256 → active k (pack (spread k q)) e ≡ q e
unfolding active
active-pack k q e h = pack-bit (spread k q) (e * 2 ^ k) h ∙ spread_at k q e

-- an element is below m exactly if its bits are below those of m elements
pub scaled : (k m b : ℕ) → ltb b (m * 2 ^ k) ≡ ltb (b / 2 ^ k) m
scaled k m b =
    let e = div-lt_iff_lt-mul {k = 2 ^ k} {x = b} {y = m} (pow_pos k) in
    elim (dec_lt b (m * 2 ^ k)) [
      | yes h ↦ lt-ltb b (m * 2 ^ k) h ∙ sym (lt-ltb (b / 2 ^ k) m (e.1 h))
      | no h ↦ le-ltb b (m * 2 ^ k) (omega arith) ∙ sym (le-ltb (b / 2 ^ k) m (not-below (λ l. h (e.0 l))))
    ]
  where
    not-below : (b / 2 ^ k < m → ⊥) → m ≤ b / 2 ^ k
    not-below n = omega arith

-- a bit of an element below n
pub in_bits : (k n e : ℕ) → e < n → n * 2 ^ k ≤ 256 → e * 2 ^ k < 256
in_bits k n e l h = lt_of_lt_of_le (mul-lt-mul_of_pos_right l (pow_pos k)) h

-- past the bits no element is active
pub active_past : (k : ℕ) (p : Predicate) → Words p → (e : ℕ) → 256 ≤ e * 2 ^ k → active k p e ≡ false
unfolding active
active_past k p ok e h = bit_past p ok (e * 2 ^ k) h

-- and element 256 lies past them at every size
pub past_bits : (k e : ℕ) → 256 ≤ e → 256 ≤ e * 2 ^ k
past_bits k e h = le_trans (omega arith) (mul-le-mul_left e (pow_pos k))

-- ---- where elements start

-- past its lowest bit no element starts
not_start : (k e i : ℕ) → suc i < 2 ^ k → element_bit k (e * 2 ^ k + suc i) ≡ false
unfolding element_bit
not_start k e i h = ne_eqb ((e * 2 ^ k + suc i) % 2 ^ k) 0 (λ z. let r : (e * 2 ^ k + suc i) % 2 ^ k ≡ suc i = digits_mod e h in omega arith)

between_starts : (k : ℕ) (q : ℕ → Bool) (e i : ℕ) → suc i < 2 ^ k → spread k q (e * 2 ^ k + suc i) ≡ false
unfolding spread
between_starts k q e i h = ap (λ (t : Bool). t && q ((e * 2 ^ k + suc i) / 2 ^ k)) (not_start k e i h)

-- the bits of n elements have as many true ones as there are true elements
pub count-spread : (k : ℕ) (q : ℕ → Bool) (n : ℕ) → count (spread k q) (n * 2 ^ k) ≡ count q n
unfolding count
count-spread k q zero = rw zero-mul
count-spread k q (suc n) =
    ap (count (spread k q)) (suc-mul n (2 ^ k)) ∙ count_add (spread k q) (n * 2 ^ k) (2 ^ k) ∙ ap₂ (λ (x y : ℕ). x + y) (count-spread k q n) one
  where
    one : count (λ i. spread k q (n * 2 ^ k + i)) (2 ^ k) ≡ digit (q n)
    one =
        let whole : 2 ^ k ≡ suc (2 ^ k - 1) = omega (arith, pow_pos k) in
        ap (count (λ i. spread k q (n * 2 ^ k + i))) whole ∙ count_low _ (2 ^ k - 1)
        ∙ ap₂ (λ (x y : ℕ). x + y) (ap digit (ap (spread k q) (add-zero (n * 2 ^ k)) ∙ spread_at k q n)) (count_none _ (2 ^ k - 1) (λ i h. between_starts k q n i (omega arith)))
        ∙ add-zero (digit (q n))

-- elements counted by the bits that they start at
pub count-at_bits : (k : ℕ) (f : ℕ → Bool) (n : ℕ) → count (λ e. f (e * 2 ^ k)) n ≡ count (λ b. element_bit k b && f b) (n * 2 ^ k)
unfolding spread
count-at_bits k f n = sym (count-spread k (λ e. f (e * 2 ^ k)) n) ∙ count_cong _ _ (n * 2 ^ k) (λ b l. at_start k f b)

-- a division that rounds up grows where an element starts
up_next : (k b : ℕ) → (suc b + (2 ^ k - 1)) / 2 ^ k ≡ (b + (2 ^ k - 1)) / 2 ^ k + digit (element_bit k b)
unfolding element_bit
up_next k b = elim (ℕ_discrete (b % 2 ^ k) 0) [ yes z ↦ starts z | no z ↦ within z ]
  where
    starts : b % 2 ^ k ≡ 0 → (suc b + (2 ^ k - 1)) / 2 ^ k ≡ (b + (2 ^ k - 1)) / 2 ^ k + digit (eqb (b % 2 ^ k) 0)
    starts z =
        let q = b / 2 ^ k in
        let after : suc b + (2 ^ k - 1) ≡ suc q * 2 ^ k + 0 = omega (arith, split b k, pow_pos k, suc-mul q (2 ^ k)) in
        let before : b + (2 ^ k - 1) ≡ q * 2 ^ k + (2 ^ k - 1) = omega (arith, split b k) in
        rw (after, before, high (suc q) k (pow_pos k), high q k (ones_lt k), eq-eqb (b % 2 ^ k) 0 z) (omega arith)

    within : (b % 2 ^ k ≡ 0 → ⊥) → (suc b + (2 ^ k - 1)) / 2 ^ k ≡ (b + (2 ^ k - 1)) / 2 ^ k + digit (eqb (b % 2 ^ k) 0)
    within z =
        let q = b / 2 ^ k in
        let small : b % 2 ^ k < 2 ^ k = mod-lt b (pow_pos k) in
        let less : b % 2 ^ k - 1 < 2 ^ k = omega arith in
        let after : suc b + (2 ^ k - 1) ≡ suc q * 2 ^ k + b % 2 ^ k = omega (arith, split b k, pow_pos k, suc-mul q (2 ^ k)) in
        let before : b + (2 ^ k - 1) ≡ suc q * 2 ^ k + (b % 2 ^ k - 1) = omega (arith, split b k, pow_pos k, suc-mul q (2 ^ k)) in
        ap (λ (x : ℕ). x / 2 ^ k) after ∙ high (suc q) k small
        ∙ sym (ap₂ (λ (x : ℕ) (t : Bool). x + digit t) (ap (λ (x : ℕ). x / 2 ^ k) before ∙ high (suc q) k less) (ne_eqb (b % 2 ^ k) 0 z) ∙ add-zero (suc q))

-- so it is how many elements start below bit b
pub count_starts : (k b : ℕ) → (b + (2 ^ k - 1)) / 2 ^ k ≡ count (element_bit k) b
unfolding count
count_starts k zero = ap (λ (x : ℕ). x / 2 ^ k) (omega arith) ∙ div-eq_of_lt (ones_lt k)
count_starts k (suc b) = up_next k b ∙ ap (λ (x : ℕ). x + digit (element_bit k b)) (count_starts k b)

-- where an element starts, a smaller one does
starts_smaller : (j k b : ℕ) → j ≤ k → element_bit k b ≡ true → element_bit j b ≡ true
starts_smaller j k b h t =
    let parts : b ≡ b / 2 ^ k * 2 ^ (k - j) * 2 ^ j = sym (mul_assoc (b / 2 ^ k) (2 ^ (k - j)) (2 ^ j) ∙ ap (λ (x : ℕ). b / 2 ^ k * x) (power_parts j k h) ∙ start_of k b t) in
    ap (element_bit j) parts ∙ element_start j (b / 2 ^ k * 2 ^ (k - j))

-- elements of two sizes start together where one of the larger does
pub both_start : (k j b : ℕ) → (element_bit k b && element_bit j b) ≡ element_bit (max k j) b
both_start k j b =
    elim (dec_lt k j) [
      | yes l ↦ smaller_first (element_bit k b) (element_bit j b) (starts_smaller k j b (omega arith)) ∙ ap (λ (x : ℕ). element_bit x b) (sym (max-eq_right (omega arith)))
      | no l ↦ smaller_second (element_bit k b) (element_bit j b) (starts_smaller j k b (omega arith)) ∙ ap (λ (x : ℕ). element_bit x b) (sym (max-eq_left (omega arith)))
    ]
  where
    smaller_first : (s t : Bool) → (t ≡ true → s ≡ true) → (s && t) ≡ t
    smaller_first s true h = rw (h refl)
    smaller_first s false h = and-false s

    smaller_second : (t s : Bool) → (t ≡ true → s ≡ true) → (t && s) ≡ t
    smaller_second true s h = h refl
    smaller_second false s h = refl

-- ---- the next element, by the bits that elements start at

-- a bit that is found stands for the first true element
element_found : (k : ℕ) (q : ℕ → Bool) (start b : ℕ) → First (spread k q) (start * 2 ^ k) 256 b → b < 256 → First q start (suc (b / 2 ^ k)) (b / 2 ^ k)
unfolding spread
element_found k q start b r h =
    record {
      from = (le-div_iff_mul-le (pow_pos k)).1 r.from;
      upto = omega arith;
      none = λ e l m. sym (spread_at k q e) ∙ r.none (e * 2 ^ k) (mul-le-mul_right (2 ^ k) l) (lt_of_lt_of_le (mul-lt-mul_of_pos_right m (pow_pos k)) (div-mul-le_self b (2 ^ k)));
      hit = λ l. second (element_bit k b) (q (b / 2 ^ k)) (r.hit h);
    }
  where
    second : (s t : Bool) → (s && t) ≡ true → t ≡ true
    second true t e = e
    second false t e = never e refl

-- the search among n elements, by the bit that the search among bits has found: it is of an element below n, or of one past them, or there is none
module _ (k : ℕ) (q : ℕ → Bool) (start n b : ℕ) (found : b ≡ first_from (spread k q) (start * 2 ^ k) 256) where
  from_bits : start * 2 ^ k ≤ 256 → First (spread k q) (start * 2 ^ k) 256 b
  from_bits h = rw (← found) at (first_found (spread k q) (start * 2 ^ k) 256 h)

  -- a start past the bits would be what is found
  start_within : b < 256 → start * 2 ^ k ≤ 256
  start_within h = elim (dec_lt 256 (start * 2 ^ k)) [ yes l ↦ absurd (omega (arith, found, first_end (spread k q) (start * 2 ^ k) 256 (omega arith))) | no l ↦ omega arith ]

  pub next-within : b < 256 → b / 2 ^ k < n → b / 2 ^ k ≡ first_from q start n
  next-within h l =
      let r = element_found k q start b (from_bits (start_within h)) h in
      first_is q start n (b / 2 ^ k) (record { from = r.from; upto = omega arith; none = r.none; hit = λ m. r.hit (omega arith) })

  pub next_beyond : b < 256 → start ≤ n → n ≤ b / 2 ^ k → n ≡ first_from q start n
  next_beyond h s l =
      let r = element_found k q start b (from_bits (start_within h)) h in
      first_is q start n n (record { from = s; upto = omega arith; none = λ e a m. r.none e a (omega arith); hit = λ m. absurd (omega arith) })

  -- elements past the bits are false
  pub next-none : ((e : ℕ) → 256 ≤ e * 2 ^ k → q e ≡ false) → start ≤ n → 256 ≤ b → n ≡ first_from q start n
  next-none past s h =
      first_is q start n n (record { from = s; upto = omega arith; none = λ e a m. at e a; hit = λ m. absurd (omega arith) })
    where
      at : (e : ℕ) → start ≤ e → q e ≡ false
      at e a =
          let l : start * 2 ^ k ≤ e * 2 ^ k = mul-le-mul_right (2 ^ k) a in
          elim (dec_lt (e * 2 ^ k) 256) [
            | yes m ↦ sym (spread_at k q e) ∙ (from_bits (omega arith)).none (e * 2 ^ k) l (omega arith)
            | no m ↦ past e (omega arith)
          ]

-- ---- spans

pub between-from-zero : (n e : ℕ) → between 0 n e ≡ ltb e n
unfolding between
between-from-zero n e = ap (λ (x : Bool). x && ltb e n) (leb-zero e)

capped : (n e : ℕ) → e < 256 → ltb e (min n 256) ≡ ltb e n
capped n e h =
    elim (dec_lt e n) [ yes l ↦ lt-ltb e (min n 256) (omega arith) ∙ sym (lt-ltb e n l) | no l ↦ le-ltb e (min n 256) (omega arith) ∙ sym (le-ltb e n (omega arith)) ]

-- a word of the first n elements
pub first_word : (k n at : ℕ) → k < 4 → at % 64 ≡ 0 → at ≤ 192
    → bit_and (number (element_bit k) 0 64) (number (below (min n 256 * 2 ^ k)) at 64) ≡ number (spread k (between 0 n)) at 64
unfolding spread below
first_word k n at h e l =
    ap (λ (x : ℕ). bit_and x (number (below (min n 256 * 2 ^ k)) at 64))
    (number_cong (element_bit k) (element_bit k) 0 at 64 (λ i m. ap (element_bit k) (zero-add i) ∙ sym (element_again k at i h e)))
    ∙ sym (number-and (element_bit k) (below (min n 256 * 2 ^ k)) at 64)
    ∙ number_cong _ _ at at 64 (λ i m. ap (λ (x : Bool). element_bit k (at + i) && x)
    (scaled k (min n 256) (at + i) ∙ capped n ((at + i) / 2 ^ k) (omega (arith, div-le_self (at + i) (2 ^ k))) ∙ sym (between-from-zero n ((at + i) / 2 ^ k))))

-- the span of elements, bit by bit
pub span-bit : (k from to b : ℕ) → b < 256 → bit_at (span_of k from to) b ≡ (element_bit k b && between from to (b / 2 ^ k))
unfolding spread
span-bit k from to b h = pack-bit (spread k (between from to)) b h

minus : (t : Bool) (from to e : ℕ) → ((t && ltb e to) && not (t && ltb e from)) ≡ (t && between from to e)
unfolding between
minus false from to e = refl
minus true from to e =
    elim (dec_lt e from) [
      | yes l ↦ rw (lt-ltb e from l, lt-leb from e l) (and-false (ltb e to))
      | no l ↦ rw (le-ltb e from (omega arith), le-leb from e (omega arith)) (and-true (ltb e to))
    ]

-- a span is what lies below its end and not below its start
pub span_minus : (k from to : ℕ) → pack (λ b. bit_at (span_of k 0 to) b && not (bit_at (span_of k 0 from) b)) ≡ span_of k from to
unfolding spread
span_minus k from to =
    pack_cong _ _ (λ b h.
    ap₂ (λ (x y : Bool). x && not y) (span-bit k 0 to b h) (span-bit k 0 from b h)
    ∙ ap₂ (λ (x y : Bool). (element_bit k b && x) && not (element_bit k b && y)) (between-from-zero to (b / 2 ^ k)) (between-from-zero from (b / 2 ^ k))
    ∙ minus (element_bit k b) from to (b / 2 ^ k))

-- ---- bits at or above a bound

-- every bit is an element of one bit
pub byte-bit : (pl b : ℕ) → b < 256 → bit_at (span_of 0 0 pl) b ≡ ltb b pl
unfolding element_bit
byte-bit pl b h = span-bit 0 0 pl b h ∙ ap₂ (λ (x y : ℕ). eqb x 0 && between 0 pl y) (mod-one b) (div-one b) ∙ between-from-zero pl b

flip : (a : Bool) (pl b : ℕ) → (a && not (ltb b pl)) ≡ (leb pl b && a)
flip a pl b = elim (dec_lt b pl) [ yes h ↦ rw (lt-ltb b pl h, lt-leb pl b h) (and-false a) | no h ↦ rw (le-ltb b pl (omega arith), le-leb pl b (omega arith)) (and-true a) ]

pub bits_from : (p : Predicate) (pl : ℕ) → some (bit_at (pack (λ b. bit_at p b && not (bit_at (span_of 0 0 pl) b)))) 256 ≡ has_bit_from pl p
unfolding has_bit_from
bits_from p pl =
    some_cong _ _ 256 (λ b h. pack-bit _ b h ∙ ap (λ (x : Bool). bit_at p b && not x) (byte-bit pl b h) ∙ flip (bit_at p b) pl b)
