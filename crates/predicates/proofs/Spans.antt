-- Laws of spans of elements: what they count, where they begin and end, their flags under an all-true mask, and that they stay within PL. Assumes nothing.
use mathlib.Core.Bool.{Bool, true, false, not, ◌&&◌, and-false}
use mathlib.Core.Path.{◌≡◌, refl, sym, ap, ◌∙◌}
use Prim.Native.Nat.{ℕ, zero, suc, ◌-◌, ◌*◌, ◌/◌, ◌^◌, ◌≤◌, ◌<◌, min}
use native.Mathlib.Decide.{dec_lt, ℕ_discrete}
use native.Mathlib.Nat.{le-div_iff_mul-le}
use native.Mathlib.Omega.{arith}
use lib.Dec.{ltb, leb, eqb}
use lib.Pow.{pow_pos}
use borrow.Author.Tests.{lt-ltb, le-ltb, le-leb, lt-leb, eq-eqb, ne_eqb}
use Rattle.bits.specs.Bits.{test_bit, element_bit}
use Rattle.bits.specs.Search.{count, some, first_from, after_last}
use Rattle.bits.proofs.Counts.{above_none}
use Rattle.bits.proofs.Searches.{some_yes, some_no, some-none, first_is, first_hit, last_is}
use Rattle.predicates.specs.declared.Predicate.{Predicate}
use Rattle.predicates.specs.PredTest.{every, at_lowest, at_highest, pred_test}
use Rattle.predicates.specs.Predicate.{bit_at, pack, all_false, active, spread, between, span_of, has_bit_from}
use Rattle.predicates.proofs.ElementBits.{active-pack}
use Rattle.predicates.proofs.Flagging.{flags_are}
use Rattle.predicates.proofs.Words.{pack-bit}

-- ---- an element of a span

pub between_yes : (from to e : ℕ) → from ≤ e → e < to → between from to e ≡ true
unfolding between
between_yes from to e h l = rw (le-leb from e h, lt-ltb e to l)

pub between_before : (from to e : ℕ) → e < from → between from to e ≡ false
unfolding between
between_before from to e h = rw (lt-leb from e h)

pub between-after : (from to e : ℕ) → to ≤ e → between from to e ≡ false
unfolding between
between-after from to e h = ap (λ (x : Bool). leb from e && x) (le-ltb e to h) ∙ and-false (leb from e)

pub active-span : (k from to e : ℕ) → e * 2 ^ k < 256 → active k (span_of k from to) e ≡ between from to e
active-span k from to e h = active-pack k (between from to) e h

-- ---- counting and searching a span

pub count-span : (from to n : ℕ) → count (between from to) n ≡ min to n - from
unfolding count
count-span from to zero = omega arith
count-span from to (suc n) =
    elim (dec_lt n to) [
      | no l ↦ rw (between-after from to n (omega arith), count-span from to n) (omega arith)
      | yes l ↦ elim (dec_lt n from) [
        | yes m ↦ rw (between_before from to n m, count-span from to n) (omega arith)
        | no m ↦ rw (between_yes from to n (omega arith) l, count-span from to n) (omega arith)
      ]
    ]

-- from an element of the span on, the first is that element
pub first_in_span : (from to start n : ℕ) → from ≤ start → start < to → start < n → first_from (between from to) start n ≡ start
first_in_span from to start n h l m = first_hit (between from to) start n m (between_yes from to start h l)

-- from the end of the span on, there is none
pub first-past-span : (from to start n : ℕ) → to ≤ start → start ≤ n → first_from (between from to) start n ≡ n
first-past-span from to start n h l =
    sym (first_is (between from to) start n n (record {
      from = l;
      upto = omega arith;
      none = λ e a b. between-after from to e (omega arith);
      hit = λ a. absurd (omega arith);
    }))

no_element : (from to e : ℕ) → to ≤ from → between from to e ≡ false
no_element from to e h =
    elim (dec_lt e from) [ yes l ↦ between_before from to e l | no l ↦ between-after from to e (omega arith) ]

-- the only element of a predicate
pub last_of_one : (e n : ℕ) → e < n → after_last (λ i. eqb i e) n ≡ suc e
last_of_one e n h =
    sym (last_is (λ i. eqb i e) n (suc e) (record {
      upto = h;
      none = λ i a b. ne_eqb i e (omega arith);
      hit = λ i s. eq-eqb i e (omega arith);
    }))

-- ---- PredTest under an all-true mask

lowest-every : (result : ℕ → Bool) (n : ℕ) → at_lowest every result (suc n) ≡ result 0
unfolding at_lowest
lowest-every result n =
    let low : first_from every 0 (suc n) ≡ 0 = first_hit every 0 (suc n) (omega arith) refl in
    rw (low, lt-ltb 0 (suc n) (omega arith))

highest_every : (result : ℕ → Bool) (n : ℕ) → at_highest every result (suc n) ≡ result n
unfolding at_highest
highest_every result n =
    let top : after_last every (suc n) ≡ suc n =
    sym (last_is every (suc n) (suc n) (record { upto = omega arith; none = λ e a b. absurd (omega arith); hit = λ e s. refl })) in
    let back : suc n - 1 ≡ n = omega arith in
    rw (top, back, lt-ltb 0 (suc n) (omega arith))

-- N is the lowest element, C the highest negated, Z that there is none
pub test_every : (result : ℕ → Bool) (n : ℕ) → pred_test every result (suc n) ≡ record { n = result 0; z = not (some result (suc n)); c = not (result n); v = false }
unfolding pred_test
test_every result n = flags_are (lowest-every result n) refl (ap not (highest_every result n))

some-span : (from to n : ℕ) → to ≤ n → some (between from to) n ≡ ltb from to
some-span from to n h =
    elim (dec_lt from to) [
      | yes k ↦ some_yes (between from to) n from (omega arith) (between_yes from to from (omega arith) k) ∙ sym (lt-ltb from to k)
      | no k ↦ some_no (between from to) n (λ e l. no_element from to e (omega arith)) ∙ sym (le-ltb from to (omega arith))
    ]

test_is : (t : Bool) (a b : ℕ) → (a ≡ b → t ≡ true) → ((a ≡ b → ⊥) → t ≡ false) → t ≡ eqb a b
test_is t a b f g = elim (ℕ_discrete a b) [ yes h ↦ f h ∙ sym (eq-eqb a b h) | no h ↦ g h ∙ sym (ne_eqb a b h) ]

-- the first `c` of n elements
pub test_first : (c n : ℕ) → 0 < n → c ≤ n → pred_test every (between 0 c) n ≡ record { n = not (eqb c 0); z = eqb c 0; c = not (eqb c n); v = false }
test_first c zero p h = absurd (omega arith)
test_first c (suc n) p h =
    test_every (between 0 c) n
    ∙ flags_are
    (elim (ℕ_discrete c 0) [ yes e ↦ between-after 0 c 0 (omega arith) ∙ sym (ap not (eq-eqb c 0 e)) | no e ↦ between_yes 0 c 0 (omega arith) (omega arith) ∙ sym (ap not (ne_eqb c 0 e)) ])
    (ap not (some-span 0 c (suc n) h) ∙ test_is (not (ltb 0 c)) c 0 (λ e. ap not (le-ltb 0 c (omega arith))) (λ e. ap not (lt-ltb 0 c (omega arith))))
    (ap not (test_is (between 0 c n) c (suc n) (λ e. between_yes 0 c n (omega arith) (omega arith)) (λ e. between-after 0 c n (omega arith))))

-- the last `c` of n elements
pub test_last : (c n : ℕ) → 0 < n → c ≤ n → pred_test every (between (n - c) n) n ≡ record { n = eqb c n; z = eqb c 0; c = eqb c 0; v = false }
test_last c zero p h = absurd (omega arith)
test_last c (suc n) p h =
    test_every (between (suc n - c) (suc n)) n
    ∙ flags_are
    (test_is _ c (suc n) (λ e. between_yes (suc n - c) (suc n) 0 (omega arith) (omega arith)) (λ e. between_before (suc n - c) (suc n) 0 (omega arith)))
    (ap not (some-span (suc n - c) (suc n) (suc n) (omega arith))
    ∙ test_is (not (ltb (suc n - c) (suc n))) c 0 (λ e. ap not (le-ltb (suc n - c) (suc n) (omega arith))) (λ e. ap not (lt-ltb (suc n - c) (suc n) (omega arith))))
    (test_is (not (between (suc n - c) (suc n) n)) c 0 (λ e. ap not (between_before (suc n - c) (suc n) n (omega arith)))
    (λ e. ap not (between_yes (suc n - c) (suc n) n (omega arith) (omega arith))))

-- ---- staying within PL

-- n elements whose bits end at or below pl have no bit from pl on
pub spread-within : (k n pl : ℕ) (q : ℕ → Bool) → n * 2 ^ k ≤ pl → ((e : ℕ) → n ≤ e → q e ≡ false) → has_bit_from pl (pack (spread k q)) ≡ false
unfolding has_bit_from spread
spread-within k n pl q h past = some_no _ 256 (λ b l. go b l)
  where
    go : (b : ℕ) → b < 256 → (leb pl b && bit_at (pack (spread k q)) b) ≡ false
    go b l =
        elim (dec_lt b pl) [
          | yes m ↦ ap (λ (x : Bool). x && bit_at (pack (spread k q)) b) (lt-leb pl b m)
          | no m ↦
              ap (λ (x : Bool). leb pl b && x)
              (pack-bit (spread k q) b l ∙ ap (λ (x : Bool). element_bit k b && x) (past (b / 2 ^ k) ((le-div_iff_mul-le (pow_pos k)).1 (omega arith))) ∙ and-false (element_bit k b))
              ∙ and-false (leb pl b)
        ]

pub span-within : (k from to pl : ℕ) → to * 2 ^ k ≤ pl → has_bit_from pl (span_of k from to) ≡ false
span-within k from to pl h = spread-within k to pl (between from to) h (λ e l. between-after from to e l)

-- a predicate has no bit from pl on if each of its bits there is 0
pub none_within : (pl : ℕ) (f : ℕ → Bool) → ((b : ℕ) → pl ≤ b → b < 256 → f b ≡ false) → has_bit_from pl (pack f) ≡ false
unfolding has_bit_from
none_within pl f z = some_no _ 256 (λ b l. go b l)
  where
    go : (b : ℕ) → b < 256 → (leb pl b && bit_at (pack f) b) ≡ false
    go b l =
        elim (dec_lt b pl) [
          | yes m ↦ ap (λ (x : Bool). x && bit_at (pack f) b) (lt-leb pl b m)
          | no m ↦ ap (λ (x : Bool). leb pl b && x) (pack-bit f b l ∙ z b (omega arith) l) ∙ and-false (leb pl b)
        ]

-- and the other way round
pub within_none : (pl : ℕ) (p : Predicate) → has_bit_from pl p ≡ false → (b : ℕ) → pl ≤ b → b < 256 → bit_at p b ≡ false
unfolding has_bit_from
within_none pl p h b l m = sym (ap (λ (x : Bool). x && bit_at p b) (le-leb pl b l)) ∙ some-none _ 256 h b m

pub word-within : (pl n : ℕ) → n < 2 ^ pl → has_bit_from pl (pack (test_bit n)) ≡ false
word-within pl n h = none_within pl (test_bit n) (λ b l m. above_none n pl b h l)

pub false-within : (pl : ℕ) → has_bit_from pl all_false ≡ false
false-within pl = none_within pl (λ b. false) (λ b l m. refl)
