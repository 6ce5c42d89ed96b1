-- Laws of flags as numbers, and of PredTest's parts. Assumes nothing.
use mathlib.Core.Bool.{Bool, true, false, not, ◌&&◌, and-false}
use mathlib.Core.Path.{◌≡◌, refl, sym, ap, ap₂, ◌∙◌}
use Prim.Native.Nat.{ℕ, ◌+◌, ◌-◌, ◌<◌}
use native.Mathlib.Decide.{dec_lt, ℕ_discrete}
use native.Mathlib.Omega.{arith}
use lib.Dec.{ltb, eqb}
use borrow.Author.Tests.{lt-ltb, le-ltb, eq-eqb, ne_eqb}
use Rattle.bits.specs.Bits.{test_bit}
use Rattle.bits.specs.Search.{some, after_last, first_from}
use Rattle.bits.proofs.Searches.{never, some_yes, some_no, some_cong, last_found, last_le, first_found}
use Rattle.predicates.specs.declared.Flags.{Flags}
use Rattle.predicates.specs.declared.Predicate.{Predicate}
use Rattle.predicates.specs.PredTest.{at_lowest, at_highest, pred_test, nzcv, flags_of}
use Rattle.predicates.specs.Predicate.{bit_at, pack}
use Rattle.predicates.proofs.Words.{pack-bit}

-- flags read back from their number
pub flags_back : (f : Flags) → flags_of (nzcv f) ≡ f
unfolding nzcv flags_of test_bit
flags_back f = go f.n f.z f.c f.v
  where
    go : (n z c v : Bool) → flags_of (nzcv (record { n = n; z = z; c = c; v = v })) ≡ record { n = n; z = z; c = c; v = v }
    go true true true true = refl
    go true true true false = refl
    go true true false true = refl
    go true true false false = refl
    go true false true true = refl
    go true false true false = refl
    go true false false true = refl
    go true false false false = refl
    go false true true true = refl
    go false true true false = refl
    go false true false true = refl
    go false true false false = refl
    go false false true true = refl
    go false false true false = refl
    go false false false true = refl
    go false false false false = refl

pub flags_are : {n n' z z' c c' : Bool} → n ≡ n' → z ≡ z' → c ≡ c'
    → ◌≡◌ {A = Flags} (record { n = n; z = z; c = c; v = false }) (record { n = n'; z = z'; c = c'; v = false })
flags_are p q r = λ i. record { n = p i; z = q i; c = r i; v = false }

-- PredTest from its three tests
pub tests : (m r : Predicate) (n z c : Bool) → n ≡ at_lowest (bit_at m) (bit_at r) 256
    → z ≡ not (some (bit_at (pack (λ b. bit_at m b && bit_at r b))) 256) → c ≡ at_highest (bit_at m) (bit_at r) 256
    → record { n = n; z = z; c = not c; v = false } ≡ pred_test (bit_at m) (bit_at r) 256
unfolding pred_test
tests m r n z c hn hz hc = flags_are hn (hz ∙ ap not (some_cong _ _ 256 (λ b h. pack-bit _ b h))) (ap not hc)

-- PredTest looks at the result's elements below n alone
module _ (m r q : ℕ → Bool) (n : ℕ) (same : (e : ℕ) → e < n → r e ≡ q e) where
  low_same : at_lowest m r n ≡ at_lowest m q n
  unfolding at_lowest
  low_same = elim (dec_lt (first_from m 0 n) n) [
    | yes l ↦ ap (λ (x : Bool). ltb (first_from m 0 n) n && x) (same (first_from m 0 n) l)
    | no l ↦ let out = le-ltb (first_from m 0 n) n (omega arith) in ap (λ (x : Bool). x && r (first_from m 0 n)) out ∙ sym (ap (λ (x : Bool). x && q (first_from m 0 n)) out)
  ]

  high_same : at_highest m r n ≡ at_highest m q n
  unfolding at_highest
  high_same = elim (dec_lt 0 (after_last m n)) [
    | yes l ↦ ap (λ (x : Bool). ltb 0 (after_last m n) && x) (same (after_last m n - 1) (omega (arith, last_le m n)))
    | no l ↦ let out = le-ltb 0 (after_last m n) (omega arith) in ap (λ (x : Bool). x && r (after_last m n - 1)) out ∙ sym (ap (λ (x : Bool). x && q (after_last m n - 1)) out)
  ]

  pub test_cong : pred_test m r n ≡ pred_test m q n
  unfolding pred_test
  test_cong = flags_are low_same (ap not (some_cong _ _ n (λ e l. ap (λ (x : Bool). m e && x) (same e l)))) (ap not high_same)

-- the end of a search compared with b + 1
end_some : (e b : ℕ) → (e ≡ 0 → ⊥) → eqb (e - 1) b ≡ eqb e (b + 1)
end_some e b h =
    elim (ℕ_discrete (e - 1) b) [
      | yes q ↦ eq-eqb (e - 1) b q ∙ sym (eq-eqb e (b + 1) (omega arith))
      | no q ↦ ne_eqb (e - 1) b q ∙ sym (ne_eqb e (b + 1) (λ z. q (omega arith)))
    ]

-- PredTest of a mask that has bit b and a result that has only this one
module _ (m : ℕ → Bool) (b : ℕ) (below : b < 256) (has : m b ≡ true) where
  low : first_from m 0 256 < 256
  low = elim (dec_lt (first_from m 0 256) 256) [
    | yes l ↦ l
    | no l ↦ never has ((first_found m 0 256 (omega arith)).none b (omega arith) (omega arith))
  ]

  high : after_last m 256 ≡ 0 → ⊥
  high z = never has ((last_found m 256).none b (omega arith) below)

  pub only-tests : record { n = eqb (first_from m 0 256) b; z = false; c = not (eqb (after_last m 256) (b + 1)); v = false } ≡ pred_test m (λ i. eqb i b) 256
  unfolding pred_test at_lowest at_highest
  only-tests = flags_are
      (sym (ap (λ (x : Bool). x && eqb (first_from m 0 256) b) (lt-ltb (first_from m 0 256) 256 low)))
      (sym (ap not (some_yes _ 256 b below (ap₂ ◌&&◌ has (eq-eqb b b refl)))))
      (ap not (sym (ap₂ ◌&&◌ (lt-ltb 0 (after_last m 256) (omega (arith, high))) (end_some (after_last m 256) b high))))

-- of one that lacks it
module _ (m : ℕ → Bool) (b n : ℕ) (lacks : m b ≡ false) where
  other : (e : ℕ) → m e ≡ true → eqb e b ≡ false
  other e h = ne_eqb e b (λ q. never h (ap m q ∙ lacks))

  low-other : at_lowest m (λ i. eqb i b) n ≡ false
  unfolding at_lowest
  low-other = elim (dec_lt (first_from m 0 n) n) [
    | yes l ↦ ap₂ ◌&&◌ (lt-ltb (first_from m 0 n) n l) (other (first_from m 0 n) ((first_found m 0 n (omega arith)).hit l))
    | no l ↦ ap (λ (x : Bool). x && eqb (first_from m 0 n) b) (le-ltb (first_from m 0 n) n (omega arith))
  ]

  high_other : at_highest m (λ i. eqb i b) n ≡ false
  unfolding at_highest
  high_other = elim (dec_lt 0 (after_last m n)) [
    | yes l ↦ ap₂ ◌&&◌ (lt-ltb 0 (after_last m n) l) (other (after_last m n - 1) ((last_found m n).hit (after_last m n - 1) (omega arith)))
    | no l ↦ ap (λ (x : Bool). x && eqb (after_last m n - 1) b) (le-ltb 0 (after_last m n) (omega arith))
  ]

  at_other : (e : ℕ) → (m e && eqb e b) ≡ false
  at_other e = elim (ℕ_discrete e b) [
    | yes q ↦ ap (λ (x : Bool). x && eqb e b) (ap m q ∙ lacks)
    | no q ↦ ap (λ (x : Bool). m e && x) (ne_eqb e b q) ∙ and-false (m e)
  ]

  pub other-tests : record { n = false; z = true; c = true; v = false } ≡ pred_test m (λ i. eqb i b) n
  unfolding pred_test
  other-tests = flags_are (sym low-other) (sym (ap not (some_no _ n (λ e l. at_other e)))) (sym (ap not high_other))

-- PredTest of a result with no element true
module _ (m r : ℕ → Bool) (n : ℕ) (none : (e : ℕ) → e < n → r e ≡ false) where
  no_low : at_lowest m r n ≡ false
  unfolding at_lowest
  no_low = elim (dec_lt (first_from m 0 n) n) [
    | yes l ↦ ap₂ ◌&&◌ (lt-ltb (first_from m 0 n) n l) (none (first_from m 0 n) l)
    | no l ↦ ap (λ (x : Bool). x && r (first_from m 0 n)) (le-ltb (first_from m 0 n) n (omega arith))
  ]

  no_high : at_highest m r n ≡ false
  unfolding at_highest
  no_high = elim (dec_lt 0 (after_last m n)) [
    | yes l ↦ ap₂ ◌&&◌ (lt-ltb 0 (after_last m n) l) (none (after_last m n - 1) (omega (arith, last_le m n)))
    | no l ↦ ap (λ (x : Bool). x && r (after_last m n - 1)) (le-ltb 0 (after_last m n) (omega arith))
  ]

  pub none-tests : record { n = false; z = true; c = true; v = false } ≡ pred_test m r n
  unfolding pred_test
  none-tests = flags_are (sym no_low) (sym (ap not (some_no _ n (λ e l. ap (λ (x : Bool). m e && x) (none e l) ∙ and-false (m e))))) (sym (ap not no_high))
