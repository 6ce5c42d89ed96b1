-- Laws of PFIRST's search and of CNTP's count. Assumes nothing.
use Rattle.std.proofs.Common.{◌≡◌, ℕ, ◌*◌, ◌^◌, ◌<◌, ◌≤◌, Bool, true, false, ◌&&◌, ◌||◌, eqb, sym, refl, ap, ◌∙◌, ap₂, mul-one, arith, le-ltb, lt-ltb}
use native.Mathlib.Decide.{dec_lt}
use Rattle.bits.specs.declared.Size.{Size}
use Rattle.bits.specs.declared.Size.TheVariants as Sz
use Rattle.bits.specs.Choice.{pick}
use Rattle.bits.specs.Search.{count, first_from, after_last}
use Rattle.bits.specs.Size.{shift}
use Rattle.bits.proofs.Searches.{count_cong, first_found, last_le}
use Rattle.predicates.specs.declared.Predicate.{Predicate}
use Rattle.predicates.specs.Predicate.{bit_at, pack, all_false, active, touched, spread, elements, live_of}
use Rattle.predicates.proofs.ElementBits.{in_bits}
use Rattle.predicates.specs.PredTest.{pred_test}
use Rattle.predicates.proofs.Flagging.{test_cong, none-tests}
use Rattle.predicates.proofs.Live.{elements_fit, last_live, test_live, active-live, first_live, first-live-none, only_element}
use Rattle.predicates.proofs.Words.{pack-bit, pack_cong}
use Rattle.instructions.specs.Searches.{first_result, next_element, next_result}

-- the elements of a bitwise AND are those true in both
pub both_active : (vl : ℕ) (size : Size) (g q m : Predicate) → m ≡ pack (λ b. bit_at g b && bit_at q b)
    → count (active (shift size) m) (elements vl size) ≡ count (λ e. active (shift size) g e && active (shift size) q e) (elements vl size)
unfolding active
both_active vl size g q m h =
    count_cong _ _ (elements vl size) (λ e l. ap (λ (x : Predicate). bit_at x (e * 2 ^ shift size)) h ∙ pack-bit _ (e * 2 ^ shift size) (in_bits (shift size) (elements vl size) e l (elements_fit vl size)))

-- PFIRST's element, from the lowest bit under the live bytes
module _ (vl : ℕ) (g dn m : Predicate) (under : m ≡ pack (λ b. bit_at g b && bit_at (live_of vl Sz.B) b)) (e : ℕ) (low : e ≡ first_from (bit_at m) 0 256) where
  first : ℕ
  first = first_from (active 0 g) 0 (elements vl Sz.B)

  found : first < elements vl Sz.B → e ≡ first
  unfolding first
  found l = low ∙ sym (first_live vl Sz.B g m under first refl l) ∙ mul-one first

  small : first < elements vl Sz.B → e < 256
  small l = let b = in_bits 0 (elements vl Sz.B) first l (elements_fit vl Sz.B) in omega (arith, found l, mul-one first)

  pub first-set : e < 256 → (d : Predicate) → d ≡ pack (λ b. eqb b e) → pack (λ b. bit_at dn b || bit_at d b) ≡ first_result g dn vl
  unfolding first
  first-set h d ed =
      elim (dec_lt first (elements vl Sz.B)) [
        | yes l ↦ pack_cong _ _ (λ b k. ap (λ (x : Bool). bit_at dn b || x) (ap (λ (x : Predicate). bit_at x b) ed ∙ pack-bit _ b k ∙ ap (eqb b) (found l)))
            ∙ sym (ap (λ (t : Bool). pick t (pack (λ b. bit_at dn b || eqb b first)) dn) (lt-ltb first (elements vl Sz.B) l))
        | no l ↦ absurd (none l)
      ]
    where
      none : (first < elements vl Sz.B → ⊥) → ⊥
      none l = omega (arith, first-live-none vl Sz.B g m under (omega arith))

  pub first_kept : 256 ≤ e → dn ≡ first_result g dn vl
  unfolding first
  first_kept h =
      elim (dec_lt first (elements vl Sz.B)) [
        | yes l ↦ absurd (omega (arith, small l))
        | no l ↦ sym (ap (λ (t : Bool). pick t (pack (λ b. bit_at dn b || eqb b first)) dn) (le-ltb first (elements vl Sz.B) (omega arith)))
      ]

-- ---- PNEXT's element, found or not; its flags are PredTest's

pub next_is : (size : Size) (v dn l m : Predicate) (vl e n : ℕ) → l ≡ live_of vl size → m ≡ pack (λ b. bit_at dn b && bit_at l b)
    → e ≡ first_from (active (shift size) v) (after_last (touched (shift size) m) 256) n → n ≡ elements vl size → e ≡ next_element size v dn vl
next_is size v dn l m vl e n live under searched elements_are =
    searched ∙ ap₂ (λ (x y : ℕ). first_from (active (shift size) v) x y)
    (last_live vl size dn m (under ∙ ap (λ (q : Predicate). pack (λ b. bit_at dn b && bit_at q b)) live)) elements_are

module _ (size : Size) (v dn : Predicate) (vl e n : ℕ) (found_is : e ≡ next_element size v dn vl) (elements_are : n ≡ elements vl size) where
  pub next-none : n ≤ e → all_false ≡ next_result size v dn vl
  next-none h =
      sym (ap (λ (t : Bool). pick t (pack (spread (shift size) (λ i. eqb i (next_element size v dn vl)))) all_false)
      (le-ltb (next_element size v dn vl) (elements vl size) (omega (arith, found_is))))

  pub next-none_flags : n ≤ e → record { n = false; z = true; c = true; v = false } ≡ pred_test (active (shift size) v) (active (shift size) (next_result size v dn vl)) (elements vl size)
  unfolding active
  next-none_flags h =
      none-tests (active (shift size) v) (active (shift size) all_false) (elements vl size)
      (λ i k. pack-bit (λ b. false) (i * 2 ^ shift size) (in_bits (shift size) (elements vl size) i k (elements_fit vl size)))
      ∙ ap (λ (q : Predicate). pred_test (active (shift size) v) (active (shift size) q) (elements vl size)) (next-none h)

  pub next_found : e < n → pack (spread (shift size) (λ i. eqb i e)) ≡ next_result size v dn vl
  next_found h =
      ap (λ (x : ℕ). pack (spread (shift size) (λ i. eqb i x))) found_is
      ∙ sym (ap (λ (t : Bool). pick t (pack (spread (shift size) (λ i. eqb i (next_element size v dn vl)))) all_false)
      (lt-ltb (next_element size v dn vl) (elements vl size) (omega (arith, found_is))))

  -- the element that is found is active in the mask
  pub next_found_bit : e < n → (w : Predicate) → w ≡ pack (λ b. bit_at v b && bit_at (live_of vl size) b) → (b : ℕ) → b ≡ e * 2 ^ shift size → (b < 256) × (bit_at w b ≡ true)
  next_found_bit h w masked b at =
      let here : e < elements vl size = omega (arith, elements_are) in
      let hit : active (shift size) v e ≡ true =
      ap (active (shift size) v) found_is ∙ (first_found (active (shift size) v) _ (elements vl size) (last_le (active (shift size) dn) (elements vl size))).hit (omega (arith, found_is, elements_are)) in
      (omega (arith, at, in_bits (shift size) (elements vl size) e here (elements_fit vl size)), ap (bit_at w) at ∙ active-live vl size v w masked e here hit)

  pub next_found_flags : e < n → (w : Predicate) → w ≡ pack (λ b. bit_at v b && bit_at (live_of vl size) b) → (b : ℕ) → b ≡ e * 2 ^ shift size
      → pred_test (bit_at w) (λ i. eqb i b) 256 ≡ pred_test (active (shift size) v) (active (shift size) (next_result size v dn vl)) (elements vl size)
  next_found_flags h w masked b at =
      test_cong (bit_at w) (λ i. eqb i b) (bit_at (next_result size v dn vl)) 256 (λ i l. sym (ap (λ (q : Predicate). bit_at q i) (sym (next_found h) ∙ sym (only_element (shift size) e)) ∙ pack-bit _ i l ∙ ap (eqb i) (sym at)))
      ∙ test_live vl size v w masked (next_result size v dn vl)
