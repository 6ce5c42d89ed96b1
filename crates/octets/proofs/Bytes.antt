-- Laws of bytes, of parts and of runs of stores, each once over the size of a part. Assumes nothing.
use mathlib.Core.List.{List, [], ◌∷◌, ◌++◌, append_assoc, append-nil}
use mathlib.Core.Path.{◌≡◌, refl, sym, ap, ◌∙◌, subst}
use Prim.Native.Nat.{ℕ, zero, suc, ◌+◌, ◌-◌, ◌*◌, ◌/◌, ◌^◌, ◌≤◌, ◌<◌}
use native.Mathlib.Nat.{sub-zero, add-zero, add-suc, suc-add, add_comm, mul_assoc, mul-le-mul, zero-mul, suc-mul, pow-suc, div-add-mod', div-lt_iff_lt-mul, lt_of_lt_of_le, pow-le-pow_right}
use native.Mathlib.Numerals.{add-one}
use native.Mathlib.Omega.{arith}
use lib.Arith.{digits_div, digits_mod, digits_lt}
use lib.Dec.{lit<}
use lib.ListN.{length, take, drop, get_or, set, length-append, length-take, length-drop, drop_of_length-le}
use lib.Seq.{take_at, drop_at, take-add, drop-drop, get_or-drop, length-take-le, sets, sets-eq}
use mir.Syntax.{w8}
use mir.Val.{Fits}
use lib.ListN.{replicate}
use Rattle.std.specs.Int.{sum_through, byte_worth}
use Rattle.octets.specs.Bytes.{le, value, parts, joined, over, AreBytes}

pub bytes_take : (k : ℕ) (bs : List ℕ) → AreBytes bs → AreBytes (take k bs)
bytes_take zero bs h i = lit< tt
bytes_take (suc k) [] h i = h i
bytes_take (suc k) (b ∷ bs) h zero = h zero
bytes_take (suc k) (b ∷ bs) h (suc i) = bytes_take k bs (λ j. h (suc j)) i

pub bytes_drop : (k : ℕ) (bs : List ℕ) → AreBytes bs → AreBytes (drop k bs)
bytes_drop k bs h i = rw get_or-drop (h (k + i))

pub bytes_of : (bs : List ℕ) → ((i : ℕ) → Fits w8 (get_or bs i 0)) → AreBytes bs
bytes_of bs h i = (h i).fits

-- ---- what is left of a slice

pub part_count : (rest : List ℕ) (n : ℕ) → n ≤ length rest → n ≡ length (take n rest)
part_count rest n h = sym (length-take-le n rest h)

-- ---- numbers

pub length-le : (k n : ℕ) → length (le k n) ≡ k
unfolding le
length-le zero n = refl
length-le (suc k) n = ap suc (length-le k (n / 256))

pub value-le : (k n : ℕ) → n < 256 ^ k → value (le k n) ≡ n
unfolding le value
value-le zero n h = omega arith
value-le (suc k) n h =
    let q : n / 256 < 256 ^ k = (div-lt_iff_lt-mul (lit< tt)).1 (rw pow-suc at h) in
    rw (value-le k (n / 256) q, div-add-mod')

le-value : (bs : List ℕ) → AreBytes bs → le (length bs) (value bs) ≡ bs
unfolding le value
le-value [] h = refl
le-value (b ∷ bs) h = rw (digits_mod (value bs) (h 0), digits_div (value bs) (h 0), le-value bs (λ i. h (suc i)))

pub le-value-at : (k : ℕ) (bs : List ℕ) → length bs ≡ k → AreBytes bs → le k (value bs) ≡ bs
le-value-at k bs e h = subst (λ (n : ℕ). le n (value bs) ≡ bs) e (le-value bs h)

pub value-lt : (bs : List ℕ) → AreBytes bs → value bs < 256 ^ length bs
unfolding value
value-lt [] h = lit< tt
value-lt (b ∷ bs) h = rw pow-suc (digits_lt (value-lt bs (λ i. h (suc i))) (h 0))

pub value-below : (k : ℕ) (bs : List ℕ) → length bs ≤ k → AreBytes bs → value bs < 256 ^ k
value-below k bs l h = lt_of_lt_of_le (value-lt bs h) (pow-le-pow_right (lit< tt) l)

pub part_lt : (bs r : List ℕ) (n at k : ℕ) → AreBytes bs → r ≡ take k (drop at bs) → n ≡ value r → n < 256 ^ k
part_lt bs r n at k b e v =
    let l : length (take k (drop at bs)) ≤ k = simp length-take (omega arith) in
    rw (v, e) (value-below k (take k (drop at bs)) l (bytes_take k (drop at bs) (bytes_drop at bs b)))

-- the sum of what each byte is worth
sum-low : (f : ℕ → ℕ) (k : ℕ) → sum_through f (suc k) ≡ f 0 + sum_through (λ i. f (suc i)) k
sum-low f zero = refl
sum-low f (suc k) = omega (arith, sum-low f k)

sum-scaled : (f g : ℕ → ℕ) (k : ℕ) → ((i : ℕ) → f i ≡ g i * 256) → sum_through f k ≡ sum_through g k * 256
sum-scaled f g zero h = h 0
sum-scaled f g (suc k) h = omega (arith, sum-scaled f g k h, h (suc k))

worth-suc : (i b : ℕ) → byte_worth (suc i) b ≡ byte_worth i b * 256
worth-suc zero b = refl
worth-suc (suc i) b = rw (pow-suc, ← mul_assoc)

pub sum-worths : (k : ℕ) (bs : List ℕ) → length bs ≡ suc k → sum_through (λ i. byte_worth i (get_or bs i 0)) k ≡ value bs
unfolding value
sum-worths zero [] h = absurd (omega arith)
sum-worths zero (b ∷ []) h = omega arith
sum-worths zero (b ∷ a ∷ bs) h = absurd (omega arith)
sum-worths (suc k) [] h = absurd (omega arith)
sum-worths (suc k) (b ∷ bs) h =
    let rest = sum-scaled (λ i. byte_worth (suc i) (get_or bs i 0)) (λ i. byte_worth i (get_or bs i 0)) k (λ i. worth-suc i (get_or bs i 0)) in
    sum-low (λ i. byte_worth i (get_or (b ∷ bs) i 0)) k ∙ rw (rest, sum-worths k bs (omega arith)) (omega arith)

-- zeros past the last byte add nothing
pub value-zeros : (n k : ℕ) → value (drop n (replicate k 0)) ≡ 0
unfolding value
value-zeros zero zero = refl
value-zeros zero (suc k) = rw (value-zeros zero k)
value-zeros (suc n) zero = refl
value-zeros (suc n) (suc k) = value-zeros n k

pub value-padded : (bs zeros : List ℕ) → value zeros ≡ 0 → value (bs ++ zeros) ≡ value bs
unfolding value
value-padded [] zeros h = h
value-padded (b ∷ bs) zeros h = ap (λ (n : ℕ). n * 256 + b) (value-padded bs zeros h)

-- ---- stores

pub sets_append : {A : Type 0} (l : List A) (i : ℕ) (a b : List A) → sets l i (a ++ b) ≡ sets (sets l i a) (i + length a) b
sets_append l i [] b = rw add-zero
sets_append l i (x ∷ a) b = sets_append (set l i x) (suc i) a b ∙ rw (suc-add, add-suc)

pub sets_over : (l vs : List ℕ) → length vs ≤ length l → sets l 0 vs ≡ over vs l
unfolding over
sets_over l vs h = let e : 0 + length vs ≡ length vs = omega arith in sets-eq vs l 0 (omega arith) ∙ rw e

-- a list stored over one of the same length
pub sets_all : {A : Type 0} (l vs : List A) (n : ℕ) → length l ≡ n → length vs ≡ n → sets l 0 vs ≡ vs
sets_all l vs n e d =
    let h : 0 + length vs ≤ length l = omega arith in
    let r : drop (0 + length vs) l ≡ [] = drop_of_length-le l {i = 0 + length vs} (omega arith) in
    sets-eq vs l 0 h ∙ rw r (append-nil vs)

-- what a product of two small numbers is below
pub small : (n m : ℕ) → n ≤ 4096 → m ≤ 4096 → n * m ≤ 16777216
small n m h k = mul-le-mul h k

-- ---- parts

module _ {A : Type 0} (f : List ℕ → A) (k : ℕ) where
  pub length-parts : (n : ℕ) (bs : List ℕ) → length (parts f k n bs) ≡ n
  unfolding parts
  length-parts zero bs = refl
  length-parts (suc n) bs = ap suc (length-parts n (drop k bs))

  pub parts_at : (n i : ℕ) (bs : List ℕ) (d : A) → i < n → get_or (parts f k n bs) i d ≡ f (take k (drop (i * k) bs))
  unfolding parts
  parts_at zero i bs d h = absurd (omega arith)
  parts_at (suc n) zero bs d h = rw zero-mul
  parts_at (suc n) (suc i) bs d h = parts_at n i (drop k bs) d (omega arith) ∙ rw (drop-drop, suc-mul, add_comm)

  -- a turn of a loop that stores the parts: what is left to store
  pub turn : (l : List A) (i n : ℕ) (bs : List ℕ) (v : A) → i < n → v ≡ f (take k (drop (i * k) bs))
      → sets (set l i v) (i + 1) (parts f k (n - (i + 1)) (drop ((i + 1) * k) bs)) ≡ sets l i (parts f k (n - i) (drop (i * k) bs))
  unfolding parts
  turn l i n bs v h e =
      let d : n - i ≡ suc (n - (i + 1)) = omega arith in
      let m : (i + 1) * k ≡ i * k + k = rw (add-one, suc-mul) in
      rw (d, e, m, ← drop-drop, add-one)

  pub turn_start : (l : List A) (n : ℕ) (bs : List ℕ) → sets l 0 (parts f k (n - 0) (drop (0 * k) bs)) ≡ sets l 0 (parts f k n bs)
  turn_start l n bs = rw (sub-zero, zero-mul)

  pub turn_end : (l : List A) (i n : ℕ) (bs : List ℕ) → n ≤ i → sets l i (parts f k (n - i) (drop (i * k) bs)) ≡ l
  unfolding parts
  turn_end l i n bs h = let d : n - i ≡ 0 = omega arith in rw d

  module _ (g : A → List ℕ) (d : A) where
    -- what was written is read back
    pub parts-joined : (xs : List A) (rest : List ℕ) → ((i : ℕ) → length (g (get_or xs i d)) ≡ k) → ((i : ℕ) → i < length xs → f (g (get_or xs i d)) ≡ get_or xs i d)
        → parts f k (length xs) (joined g xs ++ rest) ≡ xs
    unfolding parts joined
    parts-joined [] rest len h = refl
    parts-joined (x ∷ xs) rest len h =
        rw (append_assoc, take_at (g x) (joined g xs ++ rest) k (len 0), drop_at (g x) (joined g xs ++ rest) k (len 0), h 0 (omega arith), parts-joined xs rest (λ i. len (suc i)) (λ i l. h (suc i) (omega arith)))

  -- what was read is written back
  pub joined-parts : (g : A → List ℕ) → ((bs : List ℕ) → length bs ≡ k → AreBytes bs → g (f bs) ≡ bs) → (n : ℕ) (bs : List ℕ) → n * k ≤ length bs → AreBytes bs
      → joined g (parts f k n bs) ≡ take (n * k) bs
  unfolding parts joined
  joined-parts g back zero bs h b = rw zero-mul
  joined-parts g back (suc n) bs h b =
      let m : n * k + k ≤ length bs = rw suc-mul at h in
      let i : n * k ≤ length (drop k bs) = simp length-drop (omega arith) in
      rw (back (take k bs) (length-take-le k bs (omega arith)) (bytes_take k bs b), joined-parts g back n (drop k bs) i (bytes_drop k bs b), suc-mul, add_comm, take-add)

module _ {A : Type 0} (g : A → List ℕ) (k : ℕ) (len : (x : A) → length (g x) ≡ k) where
  pub length-joined : (xs : List A) → length (joined g xs) ≡ length xs * k
  unfolding joined
  length-joined [] = sym (zero-mul k)
  length-joined (x ∷ xs) = simp (length-append, len x, length-joined xs, suc-mul) (omega arith)
