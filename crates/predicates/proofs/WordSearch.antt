-- Searches among a predicate's bits, a word at a time. Assumes nothing.
use mathlib.Core.Bool.{Bool, true, false, not, ◌&&◌, and_comm}
use mathlib.Core.Logic.{◌⊎◌, inl, inr}
use mathlib.Core.Path.{◌≡◌, refl, sym, ap, ap₂, ◌∙◌}
use Prim.Native.Nat.{ℕ, suc, ◌+◌, ◌-◌, ◌*◌, ◌/◌, ◌%◌, ◌^◌, ◌≤◌, ◌<◌}
use native.Mathlib.Decide.{dec_lt, ℕ_discrete}
use native.Mathlib.Nat.{mod-eq_of_lt, mod-lt, zero-add}
use native.Mathlib.Omega.{arith}
use lib.Arith.{digits_mod}
use lib.Bits.{bit_and, bit_or, or_add_and, and_le_l, and_le_r}
use lib.Dec.{ltb, leb, eqb}
use lib.ListN.{get_or-eq_default}
use lib.Pow.{split}
use borrow.Author.Tests.{lt-ltb, le-leb, lt-leb, leb-true, eq-eqb, ne_eqb}
use Rattle.bits.specs.Bits.{test_bit, number, element_bit}
use Rattle.bits.specs.Search.{count, some, first_from, after_last}
use Rattle.bits.proofs.Bits.{number-none, number-whole, test_bit-zero, test_bit-number, test_bit-and, test_bit-from}
use Rattle.bits.proofs.Searches.{never, count_add, count_cong, count_none, some_yes, some_no, first_found, first_is, first_cong, last_found, last_is, last_le}
use Rattle.bits.proofs.Sizes.{element_again}
use Rattle.predicates.specs.declared.Predicate.{Predicate}
use Rattle.predicates.specs.PredTest.{at_highest}
use Rattle.predicates.specs.Predicate.{bit_at, active, spread}
use Rattle.predicates.specs.Words.{Words}
use Rattle.predicates.proofs.ElementBits.{at_start}
use Rattle.predicates.proofs.Words.{word, bit_in_word, bit-of-none}

-- ---- words that are 0

-- the words below q, and those from q on
abbrev pub Below : Predicate → ℕ → Type 0
Below p q = (j : ℕ) → j < q → word p j ≡ 0

abbrev pub From : Predicate → ℕ → Type 0
From p q = (j : ℕ) → q ≤ j → word p j ≡ 0

pub below-zero : (p : Predicate) → Below p 0
below-zero p j h = absurd (omega arith)

pub below_next : (p : Predicate) (q : ℕ) → Below p q → word p q ≡ 0 → Below p (q + 1)
below_next p q h e j l = elim (dec_lt j q) [ yes k ↦ h j k | no k ↦ let s : j ≡ q = omega arith in ap (word p) s ∙ e ]

pub from_four : (p : Predicate) → Words p → From p 4
from_four p ok j h = get_or-eq_default p.words 0 (omega (arith, ok.four))

pub from_pred : (p : Predicate) (q : ℕ) → From p q → word p (q - 1) ≡ 0 → From p (q - 1)
from_pred p q h e j l = elim (dec_lt (q - 1) j) [ yes k ↦ h j (omega arith) | no k ↦ let s : j ≡ q - 1 = omega arith in ap (word p) s ∙ e ]

-- a word with no bit set is 0
zero_word : (w : ℕ) → w < 2 ^ 64 → ((i : ℕ) → i < 64 → test_bit w i ≡ false) → w ≡ 0
zero_word w h z = sym (number-whole w 64 h) ∙ number-none (test_bit w) 0 64 (λ i l. ap (test_bit w) (omega arith) ∙ z i l)

pub first_in : (w : ℕ) → w < 2 ^ 64 → (w ≡ 0 → ⊥) → first_from (test_bit w) 0 64 < 64
first_in w h n =
    let r = first_found (test_bit w) 0 64 (omega arith) in
    elim (dec_lt (first_from (test_bit w) 0 64) 64) [ yes k ↦ k | no k ↦ absurd (n (zero_word w h (λ i l. r.none i (omega arith) (omega arith)))) ]

pub last_in : (w : ℕ) → w < 2 ^ 64 → (w ≡ 0 → ⊥) → 0 < after_last (test_bit w) 64
last_in w h n =
    let r = last_found (test_bit w) 64 in
    elim (dec_lt 0 (after_last (test_bit w) 64)) [ yes k ↦ k | no k ↦ absurd (n (zero_word w h (λ i l. r.none i (omega arith) l))) ]

-- ---- the lowest bit, and the highest

-- word q, split off a bit's number
at-word : (p : Predicate) (q b : ℕ) → q * 64 ≤ b → b < q * 64 + 64 → bit_at p b ≡ test_bit (word p q) (b - q * 64)
at-word p q b h l = ap (bit_at p) (omega arith) ∙ bit_in_word p q (b - q * 64) (omega arith)

pub lowest_in : (p : Predicate) → Words p → (q x : ℕ) → q < 4 → Below p q → (word p q ≡ 0 → ⊥) → x ≡ q * 64 + first_from (test_bit (word p q)) 0 64 → x ≡ first_from (bit_at p) 0 256
lowest_in p ok q x h z n e =
    let r = first_found (test_bit (word p q)) 0 64 (omega arith) in
    let k : first_from (test_bit (word p q)) 0 64 < 64 = first_in (word p q) (ok.fit q) n in
    first_is (bit_at p) 0 256 x (record {
      from = omega arith;
      upto = omega arith;
      none = λ b l m. elim (dec_lt b (q * 64)) [
        | yes a ↦ bit-of-none p b (z (b / 64) (omega arith))
        | no a ↦ at-word p q b (omega arith) (omega arith) ∙ r.none (b - q * 64) (omega arith) (omega arith)
      ];
      hit = λ l. ap (bit_at p) e ∙ bit_in_word p q (first_from (test_bit (word p q)) 0 64) k ∙ r.hit k;
    })

pub lowest_none : (p : Predicate) → Below p 4 → 256 ≡ first_from (bit_at p) 0 256
lowest_none p z =
    first_is (bit_at p) 0 256 256 (record {
      from = omega arith;
      upto = omega arith;
      none = λ b l h. bit-of-none p b (z (b / 64) (omega arith));
      hit = λ h. absurd (omega arith);
    })

pub highest_in : (p : Predicate) (q x : ℕ) → q < 4 → From p (q + 1) → (0 < after_last (test_bit (word p q)) 64) ⊎ (q ≡ 0)
    → x ≡ q * 64 + after_last (test_bit (word p q)) 64 → x ≡ after_last (bit_at p) 256
highest_in p q x h z side e =
    let r = last_found (test_bit (word p q)) 64 in
    let some : (b : ℕ) → x ≡ suc b → q * 64 ≤ b = λ b s. at_least side b s in
    last_is (bit_at p) 256 x (record {
      upto = omega (arith, r.upto);
      none = λ b l m. elim (dec_lt b (q * 64 + 64)) [
        | yes a ↦ at-word p q b (omega arith) a ∙ r.none (b - q * 64) (omega arith) (omega arith)
        | no a ↦ bit-of-none p b (z (b / 64) (omega arith))
      ];
      hit = λ b s. at-word p q b (some b s) (omega (arith, r.upto)) ∙ r.hit (b - q * 64) (omega (arith, some b s));
    })
  where
    at_least : (0 < after_last (test_bit (word p q)) 64) ⊎ (q ≡ 0) → (b : ℕ) → x ≡ suc b → q * 64 ≤ b
    at_least (inl k) b s = omega arith
    at_least (inr k) b s = omega arith

-- ---- the lowest bit from a bit on, under a mask

-- the bits of a predicate that a mask has too; the mask is the same for each word
abbrev pub under : Predicate → ℕ → ℕ → Bool
under p mask b = test_bit mask (b % 64) && bit_at p b

-- how far a search from bit `from` has come: the words before word q have no such bit, and w is what is left of word q
pub record Reached (p : Predicate) (mask from q w : ℕ) : Type 0 where
  pub place : q < 4
  pub after : from < q * 64 + 64
  pub none : (b : ℕ) → from ≤ b → b < q * 64 → under p mask b ≡ false
  pub left : (i : ℕ) → i < 64 → test_bit w i ≡ (leb from (q * 64 + i) && under p mask (q * 64 + i))
  pub fits : w < 2 ^ 64

-- a bit of word q under the mask
masked-word : (p : Predicate) → Words p → (mask q i : ℕ) → mask < 2 ^ 64 → i < 64 → test_bit (bit_and (word p q) mask) i ≡ under p mask (q * 64 + i)
masked-word p ok mask q i m h =
    test_bit-and (word p q) mask 64 i (ok.fit q) m h ∙ and_comm (test_bit (word p q) i) (test_bit mask i)
    ∙ ap₂ (λ (x : ℕ) (t : Bool). test_bit mask x && t) (sym (digits_mod q h)) (sym (bit_in_word p q i h))

-- the first word that is looked at, without its bits below `from`
pub reached_first : (p : Predicate) → Words p → (mask from w : ℕ) → mask < 2 ^ 64 → from < 256
    → w ≡ (bit_and (word p (from / 64)) mask / 2 ^ (from % 64) * 2 ^ (from % 64)) % 2 ^ 64 → Reached p mask from (from / 64) w
reached_first p ok mask from w m h e =
    record {
      place = omega arith;
      after = omega arith;
      none = λ b a l. absurd (omega arith);
      left = λ i l. ap (λ (x : ℕ). test_bit x i) (e ∙ mod-eq_of_lt kept) ∙ test_bit-from (bit_and (word p (from / 64)) mask) (from % 64) i
          ∙ ap₂ ◌&&◌ (same_order i) (masked-word p ok mask (from / 64) i m l);
      fits = rw e (mod-lt _ (omega arith));
    }
  where
    kept : bit_and (word p (from / 64)) mask / 2 ^ (from % 64) * 2 ^ (from % 64) < 2 ^ 64
    kept = omega (arith, split (bit_and (word p (from / 64)) mask) (from % 64), and_le_r (word p (from / 64)) mask)

    same_order : (i : ℕ) → leb (from % 64) i ≡ leb from (from / 64 * 64 + i)
    same_order i =
        elim (dec_lt i (from % 64)) [
          | yes l ↦ lt-leb (from % 64) i l ∙ sym (lt-leb from (from / 64 * 64 + i) (omega arith))
          | no l ↦ le-leb (from % 64) i (omega arith) ∙ sym (le-leb from (from / 64 * 64 + i) (omega arith))
        ]

-- what is left of the word, bit by bit
left_at : {p : Predicate} {mask from q w : ℕ} → Reached p mask from q w → (b : ℕ) → from ≤ b → q * 64 ≤ b → b < q * 64 + 64 → test_bit w (b - q * 64) ≡ under p mask b
left_at {p} {mask} {from} {q} {w} r b h l m =
    let e : q * 64 + (b - q * 64) ≡ b = omega arith in
    r.left (b - q * 64) (omega arith) ∙ ap (λ (x : ℕ). leb from x && under p mask x) e ∙ ap (λ (t : Bool). t && under p mask b) (le-leb from b h)

-- a word of which nothing is left
passed : {p : Predicate} {mask from q w : ℕ} → Reached p mask from q w → w ≡ 0 → (b : ℕ) → from ≤ b → b < q * 64 + 64 → under p mask b ≡ false
passed {p} {mask} {from} {q} {w} r e b h l =
    elim (dec_lt b (q * 64)) [
      | yes m ↦ r.none b h m
      | no m ↦ sym (left_at r b h (omega arith) l) ∙ ap (λ (x : ℕ). test_bit x (b - q * 64)) e ∙ test_bit-zero (b - q * 64)
    ]

-- and the next one, if nothing is left of that
pub reached_next : {p : Predicate} {mask from q w : ℕ} → Reached p mask from q w → Words p → mask < 2 ^ 64 → w ≡ 0 → q + 1 < 4
    → Reached p mask from (q + 1) (bit_and (word p (q + 1)) mask)
reached_next {p} {mask} {from} {q} {w} r ok m e h =
    record {
      place = h;
      after = omega (arith, r.after);
      none = λ b a l. passed r e b a (omega arith);
      left = λ i l. masked-word p ok mask (q + 1) i m l
          ∙ sym (ap (λ (t : Bool). t && under p mask ((q + 1) * 64 + i)) (le-leb from ((q + 1) * 64 + i) (omega (arith, r.after))));
      fits = omega (arith, and_le_r (word p (q + 1)) mask);
    }

-- where something is left, its lowest bit is the one
pub reached_found : {p : Predicate} {mask from q w : ℕ} → Reached p mask from q w → (w ≡ 0 → ⊥)
    → q * 64 + first_from (test_bit w) 0 64 ≡ first_from (under p mask) from 256
reached_found {p} {mask} {from} {q} {w} r n =
    let s = first_found (test_bit w) 0 64 (omega arith) in
    let k : first_from (test_bit w) 0 64 < 64 = first_in w r.fits n in
    let (t, hit) = both (leb from (q * 64 + first_from (test_bit w) 0 64)) _ (sym (r.left (first_from (test_bit w) 0 64) k) ∙ s.hit k) in
    first_is (under p mask) from 256 (q * 64 + first_from (test_bit w) 0 64) (record {
      from = leb-true from (q * 64 + first_from (test_bit w) 0 64) t;
      upto = omega (arith, r.place);
      none = λ b a l. elim (dec_lt b (q * 64)) [
        | yes m ↦ r.none b a m
        | no m ↦ sym (left_at r b a (omega arith) (omega arith)) ∙ s.none (b - q * 64) (omega arith) (omega arith)
      ];
      hit = λ l. hit;
    })
  where
    both : (a b : Bool) → (a && b) ≡ true → (a ≡ true) × (b ≡ true)
    both true b e = (refl, e)
    both false b e = never e refl

-- where nothing is left of the last word, there is none
pub reached_none : {p : Predicate} {mask from q w : ℕ} → Reached p mask from q w → w ≡ 0 → 4 ≤ q + 1 → 256 ≡ first_from (under p mask) from 256
reached_none {p} {mask} {from} {q} {w} r e l =
    first_is (under p mask) from 256 256 (record {
      from = omega (arith, r.after, r.place);
      upto = omega arith;
      none = λ b h m. passed r e b h (omega arith);
      hit = λ h. absurd (omega arith);
    })

-- under the lowest bits of elements
under_elements : (k : ℕ) (p : Predicate) → k < 4 → (b : ℕ) → under p (number (element_bit k) 0 64) b ≡ spread k (active k p) b
unfolding spread active
under_elements k p h b =
    let again : element_bit k (b % 64) ≡ element_bit k b = sym (element_again k (b / 64 * 64) (b % 64) h (omega arith)) ∙ ap (element_bit k) (omega arith) in
    ap (λ (t : Bool). t && bit_at p b) (test_bit-number (element_bit k) 0 64 (b % 64) (omega arith) ∙ ap (element_bit k) (zero-add (b % 64)) ∙ again) ∙ sym (at_start k (bit_at p) b)

-- so the search under that mask finds the lowest bit of the next active element
pub element_search : {p : Predicate} {mask from q w : ℕ} → Reached p mask from q w → (k : ℕ) → mask ≡ number (element_bit k) 0 64 → k < 4
    → first_from (under p mask) from 256 ≡ first_from (spread k (active k p)) from 256
element_search {p} {mask} {from} {q} {w} r k e h =
    first_cong _ _ from 256 (omega (arith, r.after, r.place)) (λ b a l. ap (λ (m : ℕ). under p m b) e ∙ under_elements k p h b)

-- ---- the count

pub count_words : (p : Predicate) (a b c d : ℕ) → a ≡ count (test_bit (word p 0)) 64 → b ≡ count (test_bit (word p 1)) 64
    → c ≡ count (test_bit (word p 2)) 64 → d ≡ count (test_bit (word p 3)) 64 → a + b + c + d ≡ count (bit_at p) 256
count_words p a b c d ha hb hc hd =
    let one : (q : ℕ) → count (λ i. bit_at p (q * 64 + i)) 64 ≡ count (test_bit (word p q)) 64 = λ q. count_cong _ _ 64 (λ i l. bit_in_word p q i l) in
    let s1 : count (bit_at p) 256 ≡ count (bit_at p) 192 + count (λ i. bit_at p (192 + i)) 64 = count_add (bit_at p) 192 64 in
    let s2 : count (bit_at p) 192 ≡ count (bit_at p) 128 + count (λ i. bit_at p (128 + i)) 64 = count_add (bit_at p) 128 64 in
    let s3 : count (bit_at p) 128 ≡ count (bit_at p) 64 + count (λ i. bit_at p (64 + i)) 64 = count_add (bit_at p) 64 64 in
    let s4 : count (bit_at p) 64 ≡ count (λ i. bit_at p (0 + i)) 64 = count_cong _ _ 64 (λ i l. ap (bit_at p) (omega arith)) in
    omega (arith, one 0, one 1, one 2, one 3)

-- ---- whether there is a bit

or-none : (a b : ℕ) → bit_or a b ≡ 0 → (a ≡ 0) × (b ≡ 0)
or-none a b h = (omega (arith, or_add_and a b, and_le_l a b, and_le_r a b), omega (arith, or_add_and a b, and_le_l a b, and_le_r a b))

-- the words past the first are 0
pub count-first : (p : Predicate) (a : ℕ) → a ≡ count (test_bit (word p 0)) 64 → bit_or (bit_or (word p 1) (word p 2)) (word p 3) ≡ 0 → a ≡ count (bit_at p) 256
count-first p a ha none =
    let (e, d) = or-none (bit_or (word p 1) (word p 2)) (word p 3) none in
    let (b, c) = or-none (word p 1) (word p 2) e in
    let zero : (w : ℕ) → w ≡ 0 → 0 ≡ count (test_bit w) 64 = λ w h. sym (ap (λ (v : ℕ). count (test_bit v) 64) h ∙ count_none (test_bit 0) 64 (λ i l. test_bit-zero i)) in
    omega (arith, count_words p a 0 0 0 ha (zero (word p 1) b) (zero (word p 2) c) (zero (word p 3) d))

some-bit : (p : Predicate) → Words p → (q : ℕ) → q < 4 → (word p q ≡ 0 → ⊥) → not (some (bit_at p) 256) ≡ false
some-bit p ok q h n =
    let k = first_in (word p q) (ok.fit q) n in
    ap not (some_yes (bit_at p) 256 (q * 64 + first_from (test_bit (word p q)) 0 64) (omega arith)
    (bit_in_word p q (first_from (test_bit (word p q)) 0 64) k ∙ (first_found (test_bit (word p q)) 0 64 (omega arith)).hit k))

four_none : (p : Predicate) → word p 0 ≡ 0 → word p 1 ≡ 0 → word p 2 ≡ 0 → word p 3 ≡ 0 → Below p 4
four_none p a b c d = below_next p 3 (below_next p 2 (below_next p 1 (below_next p 0 (below-zero p) a) b) c) d

pub empty_words : (p : Predicate) → Words p → eqb (bit_or (bit_or (bit_or (word p 0) (word p 1)) (word p 2)) (word p 3)) 0 ≡ not (some (bit_at p) 256)
empty_words p ok =
    elim (ℕ_discrete (bit_or (bit_or (bit_or (word p 0) (word p 1)) (word p 2)) (word p 3)) 0) [
      | yes e ↦
          let (e₂, d) = or-none (bit_or (bit_or (word p 0) (word p 1)) (word p 2)) (word p 3) e in
          let (e₁, c) = or-none (bit_or (word p 0) (word p 1)) (word p 2) e₂ in
          let (a, b) = or-none (word p 0) (word p 1) e₁ in
          eq-eqb _ 0 e ∙ sym (ap not (some_no (bit_at p) 256 (λ i l. bit-of-none p i (four_none p a b c d (i / 64) (omega arith)))))
      | no n ↦ ne_eqb _ 0 n ∙ sym (search_word n)
    ]
  where
    search_word : (bit_or (bit_or (bit_or (word p 0) (word p 1)) (word p 2)) (word p 3) ≡ 0 → ⊥) → not (some (bit_at p) 256) ≡ false
    search_word n =
        elim (ℕ_discrete (word p 0) 0) [
          | no k ↦ some-bit p ok 0 (omega arith) k
          | yes a ↦ elim (ℕ_discrete (word p 1) 0) [
            | no k ↦ some-bit p ok 1 (omega arith) k
            | yes b ↦ elim (ℕ_discrete (word p 2) 0) [
              | no k ↦ some-bit p ok 2 (omega arith) k
              | yes c ↦ elim (ℕ_discrete (word p 3) 0) [
                | no k ↦ some-bit p ok 3 (omega arith) k
                | yes d ↦ absurd (n (rw (a, b, c, d)))
              ]
            ]
          ]
        ]

-- ---- PredTest's ends

pub highest_test : (m r : Predicate) → Words m → (q : ℕ) → q < 4 → From m (q + 1) → (word m q ≡ 0 → ⊥) → (x : Bool) (b : ℕ) → b ≡ after_last (test_bit (word m q)) 64
    → x ≡ test_bit (word r q) ((b + 63) % 64) → x ≡ at_highest (bit_at m) (bit_at r) 256
unfolding at_highest
highest_test m r ok q h z n x b eb ex =
    let k : 0 < b = rw (← eb) at (last_in (word m q) (ok.fit q) n) in
    let l : b ≤ 64 = rw (← eb) at (last_le (test_bit (word m q)) 64) in
    let top : q * 64 + b ≡ after_last (bit_at m) 256 = highest_in m q (q * 64 + b) h z (inl (last_in (word m q) (ok.fit q) n)) (ap (λ (y : ℕ). q * 64 + y) eb) in
    let place : (b + 63) % 64 ≡ b - 1 = omega arith in
    ex ∙ ap (test_bit (word r q)) place ∙ sym (bit_in_word r q (b - 1) (omega arith)) ∙ ap (bit_at r) (omega arith)
    ∙ sym (ap (λ (t : Bool). t && bit_at r (q * 64 + b - 1)) (lt-ltb 0 (q * 64 + b) (omega arith)))
    ∙ ap (λ (y : ℕ). ltb 0 y && bit_at r (y - 1)) top

pub highest_none : (m r : Predicate) → From m 0 → false ≡ at_highest (bit_at m) (bit_at r) 256
unfolding at_highest
highest_none m r z =
    ap (λ (y : ℕ). ltb 0 y && bit_at r (y - 1)) (last_is (bit_at m) 256 0 (record {
      upto = omega arith;
      none = λ b l h. bit-of-none m b (z (b / 64) (omega arith));
      hit = λ b h. absurd (omega arith);
    }))
