-- A run of numbers from 0 that pass: there are as many of them as the highest one tells. Assumes nothing.
use mathlib.Core.Bool.{Bool, true, false, not, ◌&&◌, and-false}
use mathlib.Core.Path.{◌≡◌, refl, ap, ◌∙◌, sym}
use Prim.Native.Nat.{ℕ, zero, suc, ◌+◌, ◌-◌, ◌<◌}
use native.Mathlib.Decide.{dec_lt}
use native.Mathlib.Omega.{arith}
use lib.Dec.{ltb, eqb}
use borrow.Author.Tests.{lt-ltb, le-ltb, ltb-true, eq-eqb, ne_eqb}
use Rattle.bits.specs.Search.{count, some, after_last}
use Rattle.bits.proofs.Searches.{never, count-le, count_all, count_low, count_add, count_end_lem, some_found, some-none, some_no, last_found}
use Rattle.predicates.specs.declared.Predicate.{Predicate}
use Rattle.predicates.specs.Predicate.{bit_at, pack, monotonic}
use Rattle.predicates.specs.Words.{Words}
use Rattle.predicates.proofs.Words.{pack-bit, pack_words, same_bits}

-- a number below n passes, and one below it does not
abbrev hole : (ℕ → Bool) → ℕ → Bool
hole f n = some (λ b. f b && some (λ below. not (f below)) b) n

both : (a b : Bool) → (a && b) ≡ true → (a ≡ true) × (b ≡ true)
both true b h = (refl, h)
both false b h = never h refl

inverted : (b : Bool) → not b ≡ true → b ≡ false
inverted true h = never h refl
inverted false h = refl

kept : (b : Bool) → not b ≡ false → b ≡ true
kept true h = refl
kept false h = never refl h

-- one that does not pass is not counted
missing : (f : ℕ → Bool) (r a : ℕ) → a < r → f a ≡ false → count f r < r
missing f r a l h =
    let e : r ≡ a + suc (r - a - 1) = omega arith in
    let s : a + 0 ≡ a = omega arith in
    let first : count (λ i. f (a + i)) (suc (r - a - 1)) ≡ count (λ i. f (a + suc i)) (r - a - 1) = count_low (λ i. f (a + i)) (r - a - 1) ∙ rw (s, h) (omega arith) in
    omega (arith, ap (count f) e, count_add f a (suc (r - a - 1)), first, count-le f a, count-le (λ i. f (a + suc i)) (r - a - 1))

-- with a hole there are fewer than the highest one tells
holed : (f : ℕ → Bool) (n : ℕ) → hole f n ≡ true → count f n < after_last f n
holed f n h =
    let (b, l, t) = some_found (λ b. f b && some (λ below. not (f below)) b) n h in
    let (hit, some_below) = both (f b) (some (λ below. not (f below)) b) t in
    let (a, k, u) = some_found (λ below. not (f below)) b some_below in
    let last = last_found f n in
    let r : ℕ = after_last f n in
    let above : b < r = elim (dec_lt b r) [ yes m ↦ m | no m ↦ never hit (last.none b (omega arith) l) ] in
    omega (arith, count_end_lem f r n last.upto last.none, missing f r a (omega arith) (inverted (f a) u))

-- without one all below the highest pass
below : (f : ℕ → Bool) (n : ℕ) → hole f n ≡ false → (a : ℕ) → a < after_last f n → f a ≡ true
below f n h a l = go (after_last f n) refl
  where
    go : (r : ℕ) → after_last f n ≡ r → f a ≡ true
    go zero e = absurd (omega arith)
    go (suc top) e =
        let last = last_found f n in
        let hit = last.hit top e in
        let none : some (λ low. not (f low)) top ≡ false = ap (λ (t : Bool). t && some (λ low. not (f low)) top) (sym hit) ∙ some-none _ n h top (omega (arith, last.upto)) in
        elim (dec_lt a top) [
          | yes m ↦ kept (f a) (some-none _ top none a m)
          | no m ↦ let s : top ≡ a = omega arith in rw s at hit
        ]

-- so that there are as many
whole : (f : ℕ → Bool) (n : ℕ) → hole f n ≡ false → count f n ≡ after_last f n
whole f n h =
    let last = last_found f n in
    count_end_lem f (after_last f n) n last.upto last.none ∙ count_all f (after_last f n) (below f n h)

pub run-count : (f : ℕ → Bool) (n : ℕ) → not (hole f n) ≡ eqb (count f n) (after_last f n)
run-count f n = go (hole f n) refl
  where
    go : (t : Bool) → hole f n ≡ t → not (hole f n) ≡ eqb (count f n) (after_last f n)
    go true e = ap not e ∙ sym (ne_eqb (count f n) (after_last f n) (λ s. absurd (omega (arith, holed f n e))))
    go false e = ap not e ∙ sym (eq-eqb (count f n) (after_last f n) (whole f n e))

-- ---- which predicates are runs

-- the first n bits, whatever n is
pub run-monotonic : (n : ℕ) → monotonic (pack (λ b. ltb b n)) ≡ true
unfolding monotonic
run-monotonic n = ap not (some_no _ 256 (λ b l. above b l (ltb b n) refl))
  where
    at : (b : ℕ) → b < 256 → bit_at (pack (λ b. ltb b n)) b ≡ ltb b n
    at b l = pack-bit (λ b. ltb b n) b l

    above : (b : ℕ) → b < 256 → (t : Bool) → ltb b n ≡ t → (bit_at (pack (λ b. ltb b n)) b && some (λ below. not (bit_at (pack (λ b. ltb b n)) below)) b) ≡ false
    above b l true e =
        ap (λ (t : Bool). bit_at (pack (λ b. ltb b n)) b && t)
        (some_no _ b (λ a k. ap not (at a (omega arith) ∙ lt-ltb a n (omega (arith, ltb-true b n e)))))
        ∙ and-false (bit_at (pack (λ b. ltb b n)) b)
    above b l false e = ap (λ (t : Bool). t && some (λ below. not (bit_at (pack (λ b. ltb b n)) below)) b) (at b l ∙ e)

-- and no others: a run is its first bits
pub monotonic-run : (p : Predicate) → Words p → monotonic p ≡ true → p ≡ pack (λ b. ltb b (count (bit_at p) 256))
unfolding monotonic
monotonic-run p w h =
    let e = inverted (hole (bit_at p) 256) h in
    let n = count (bit_at p) 256 in
    let last = last_found (bit_at p) 256 in
    let same : n ≡ after_last (bit_at p) 256 = whole (bit_at p) 256 e in
    same_bits p (pack (λ b. ltb b n)) w (pack_words (λ b. ltb b n))
    (λ b l. elim (dec_lt b n) [
      | yes k ↦ below (bit_at p) 256 e b (omega arith) ∙ sym (lt-ltb b n k) ∙ sym (pack-bit (λ b. ltb b n) b l)
      | no k ↦ last.none b (omega arith) l ∙ sym (le-ltb b n (omega arith)) ∙ sym (pack-bit (λ b. ltb b n) b l)
    ])
