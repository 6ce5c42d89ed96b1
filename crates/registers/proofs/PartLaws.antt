-- The parts of a state: reads and writes of lists of words are reads and writes of predicates. Assumes nothing.
use mathlib.Core.Bool.{Bool, true, false, not, ◌&&◌}
use mathlib.Core.List.{List, [], ◌∷◌, ◌++◌, map}
use mathlib.Core.Path.{◌≡◌, refl, sym, ap, ap₂, subst, ◌∙◌}
use Prim.Native.Nat.{ℕ, zero, suc, ◌+◌, ◌*◌, ◌%◌, ◌^◌, ◌≤◌, ◌<◌, min}
use native.Mathlib.Numerals.{add-one}
use native.Mathlib.Nat.{add-zero, zero-add, not-suc-le-zero, le_of_suc-le-suc}
use native.Mathlib.Omega.{arith}
use lib.Bits.{bit_or, bit_xor}
use lib.Dec.{leb, eqb}
use lib.ListN.{get_or, set, take, length, length-map, get_or-map}
use lib.Seq.{set_out, ext_get_or, take-suc, take-suc-set, take-length, get_or-take, length-take-le}
use denote.Param.Members.{Mut, Called}
use Rattle.std.specs.Array.{IsFromFnResult, IsFromFnResultFrom}
use Rattle.bits.specs.Search.{some}
use Rattle.bits.proofs.Searches.{never, some_cong, some-none}
use Rattle.predicates.specs.declared.Predicate.{Predicate}
use Rattle.predicates.specs.Predicate.{all_false, pack, bit_at, predicate_length, has_bit_from}
use Rattle.predicates.proofs.Lengths.{length_quads}
use Rattle.tally.specs.declared.Counts.{Counts}
use Rattle.tally.specs.Counts.{counts_of, no_counts, same_counts}
use Rattle.tally.specs.declared.Planes.{Planes}
use Rattle.tally.specs.Planes.{planes_in, sums_of}
use Rattle.tally.specs.Tally.{packed_of, counts_in, tally_in}
use Rattle.tally.proofs.Same.{packed_test, xor_test, joined_more}
use Rattle.tally.proofs.Total.{tally_in_lem}
use Rattle.tally.proofs.Within.{Small, counts_small, packed_back, tally_is}
use Rattle.registers.specs.declared.State.{State}
use Rattle.registers.specs.declared.parts.Settings.{Settings}
use Rattle.registers.specs.State.{assembled, read_p, read_counts}
use Rattle.registers.specs.Legal.{has_all_registers, settings_allowed, has_stray_bit, has_wrong_count, legal}
use Rattle.registers.specs.Parts.{predicates_of, counts_as, counts_from, state_at, settings_of}
use Rattle.registers.proofs.Registers.{Sized}
use Rattle.registers.proofs.Legality.{strays, by_counts, settings_has, quads, stray_union}

pub predicates_length : (l : List (List ℕ)) → length (predicates_of l) ≡ length l
unfolding predicates_of
predicates_length [] = refl
predicates_length (w ∷ ws) = ap suc (predicates_length ws)

pub read_in : (l : List (List ℕ)) (i : ℕ) → i < length l → record { words = get_or l i [] } ≡ get_or (predicates_of l) i all_false
unfolding predicates_of
read_in [] i h = absurd (not-suc-le-zero h)
read_in (w ∷ ws) zero h = refl
read_in (w ∷ ws) (suc i) h = read_in ws i (le_of_suc-le-suc h)

pub read_at : (l : List (List ℕ)) (i : ℕ) → record { words = get_or l i all_false.words } ≡ get_or (predicates_of l) i all_false
unfolding predicates_of
read_at [] i = refl
read_at (w ∷ ws) zero = refl
read_at (w ∷ ws) (suc i) = read_at ws i

pub write_in : (l : List (List ℕ)) (i : ℕ) (q : Predicate) → predicates_of (set l i q.words) ≡ set (predicates_of l) i q
unfolding predicates_of
write_in [] i q = refl
write_in (w ∷ ws) zero q = refl
write_in (w ∷ ws) (suc i) q = ap (λ (r : List Predicate). record { words = w } ∷ r) (write_in ws i q)

-- ---- counts

pub counts_length : (l : List (List ℕ)) → length (counts_from l) ≡ length l
unfolding counts_from
counts_length [] = refl
counts_length (c ∷ cs) = ap suc (counts_length cs)

pub counts_in_lem : (l : List (List ℕ)) (i : ℕ) → i < length l → counts_as (get_or l i []) ≡ get_or (counts_from l) i no_counts
unfolding counts_from
counts_in_lem [] i h = absurd (not-suc-le-zero h)
counts_in_lem (c ∷ cs) zero h = refl
counts_in_lem (c ∷ cs) (suc i) h = counts_in_lem cs i (le_of_suc-le-suc h)

pub counts_read : (l : List (List ℕ)) (i : ℕ) → counts_as (get_or l i (0 ∷ 0 ∷ 0 ∷ 0 ∷ [])) ≡ get_or (counts_from l) i no_counts
unfolding counts_from
counts_read [] i = refl
counts_read (c ∷ cs) zero = refl
counts_read (c ∷ cs) (suc i) = counts_read cs i

pub counts_write : (l : List (List ℕ)) (i : ℕ) (k : Counts) → counts_from (set l i (k.b ∷ k.h ∷ k.s ∷ k.d ∷ [])) ≡ set (counts_from l) i k
unfolding counts_from
counts_write [] i k = refl
counts_write (c ∷ cs) zero k = refl
counts_write (c ∷ cs) (suc i) k = ap (λ (r : List Counts). counts_as c ∷ r) (counts_write cs i k)

pub counts_written : (l : List (List ℕ)) (i : ℕ) (k e : Counts) → k ≡ e → counts_from (set l i (k.b ∷ k.h ∷ k.s ∷ k.d ∷ [])) ≡ set (counts_from l) i e
counts_written l i k e h = counts_write l i k ∙ ap (set (counts_from l) i) h

pub counts_write_out : (l : List (List ℕ)) (i : ℕ) (k : Counts) → length l ≤ i → counts_from l ≡ set (counts_from l) i k
counts_write_out l i k h = sym (set_out (counts_from l) i k (rw (counts_length l) h))

-- ---- legality, from the lengths, from the union of the predicates and from the counts

-- as many are lent as there are
pub all_lent : (u : Settings) (f : List Bool) (x : List ℕ) (p c : List (List ℕ)) (t : Bool) → t ≡ (eqb (length x) 31 && (eqb (length p) 17 && eqb (length c) 16)) → t ≡ has_all_registers (state_at u f x p c)
unfolding has_all_registers
all_lent u f x p c t h = rw (predicates_length p, counts_length c) h

stray_is : (s : State) (w : Bool) (u : Predicate) (pl : ℕ) → Sized s → u ≡ pack (λ k. some (λ i. bit_at (read_p s i) k) (length s.p)) → pl ≡ predicate_length s.vl → w ≡ not (has_bit_from pl u) → w ≡ not (has_stray_bit s)
stray_is s w u pl z hu hp hw = hw ∙ ap not (ap (λ (k : ℕ). has_bit_from k u) hp ∙ stray_union s u z hu)

pub by_strays : (s : State) (b w : Bool) (u : Predicate) (pl : ℕ) → Sized s → b ≡ settings_allowed s.vl s.level → not b ≡ false → u ≡ pack (λ k. some (λ i. bit_at (read_p s i) k) (length s.p))
    → pl ≡ predicate_length s.vl → w ≡ not (has_bit_from pl u) → not w ≡ true → false ≡ legal s
by_strays s b w u pl z hb n hu hp hw m = strays s b w z hb n (stray_is s w u pl z hu hp hw) m

-- what the code compares of a register
abbrev pub unlike : Bool → List Predicate → List Counts → ℕ → Bool
unlike low p c i = not (same_counts (counts_in (tally_in low (get_or p i all_false))) (get_or c i no_counts))

-- a predicate and its counts, compared as numbers
pub differs : (low by : Bool) (q : Predicate) (k : Counts) (y : Planes) (t n r : ℕ) → low ≡ by → y ≡ planes_in by q → t ≡ sums_of y → n ≡ packed_of k → t < 2 ^ 64 → Small k → r ≡ bit_xor t n
    → eqb r 0 ≡ same_counts (counts_in (tally_in low q)) k
differs low by q k y t n r hl hy ht hn l z hr =
    ap (λ (x : ℕ). eqb x 0) hr ∙ xor_test t n ∙ ap (eqb t) hn ∙ packed_test t k l z ∙ ap (λ (x : ℕ). same_counts (counts_in x) k) (tally_in_lem by q y t hy ht ∙ sym (ap (λ (b : Bool). tally_in b q) hl))

-- one register more
pub agree_more : (low : Bool) (p : List Predicate) (c : List Counts) (i bad x r : ℕ) (q : Predicate) (k : Counts) → q ≡ get_or p i all_false → k ≡ get_or c i no_counts
    → eqb x 0 ≡ same_counts (counts_in (tally_in low q)) k → eqb bad 0 ≡ not (some (unlike low p c) i) → r ≡ bit_or bad x → eqb r 0 ≡ not (some (unlike low p c) (i + 1))
agree_more low p c i bad x r q k hq hk hx e hr =
    joined_more (unlike low p c) i bad x r (ap not (hx ∙ ap₂ (λ (o : Predicate) (j : Counts). same_counts (counts_in (tally_in low o)) j) hq hk)) e hr

pub by_tallies : (s : State) (b w r : Bool) (u : Predicate) (pl : ℕ) → Sized s → b ≡ settings_allowed s.vl s.level → not b ≡ false → u ≡ pack (λ k. some (λ i. bit_at (read_p s i) k) (length s.p))
    → pl ≡ predicate_length s.vl → w ≡ not (has_bit_from pl u) → not w ≡ false → r ≡ not (some (unlike (leb pl 64) s.p s.counts) (min (length s.p) (length s.counts))) → r ≡ legal s
unfolding has_stray_bit has_wrong_count
by_tallies s b w r u pl z hb n hu hp hw m hr =
    let none : has_stray_bit s ≡ false = unstray w (has_stray_bit s) (stray_is s w u pl z hu hp hw) m in
    let kept : min (length s.p) (length s.counts) ≡ 16 = omega (arith, z.ps, z.cs) in
    let (len, level) = settings_has s.vl s.level (allowed_is b hb n) in
    let (q, e, lo, hi) = quads s.vl len in
    let whole : predicate_length s.vl % 8 ≡ 0 = ap (λ (v : ℕ). predicate_length v % 8) e ∙ ap (λ (v : ℕ). v % 8) (length_quads q hi) ∙ eight q in
    hr
    ∙ ap (λ (k : ℕ). not (some (unlike (leb pl 64) s.p s.counts) k)) kept
    ∙ ap not (some_cong _ _ 16 (λ i l. ap (λ (k : Counts). not (same_counts k (read_counts s i))) (
    ap counts_in (tally_is (read_p s i) s.vl (leb pl 64) whole (some-none _ 17 none i (omega arith)) (ap (λ (k : ℕ). leb k 64) hp))
    ∙ packed_back (counts_of s.vl (read_p s i)) (counts_small s.vl (read_p s i)))))
    ∙ by_counts s b z hb n none
  where
    unstray : (w t : Bool) → w ≡ not t → not w ≡ false → t ≡ false
    unstray true true e h = e
    unstray true false e h = refl
    unstray false t e h = never refl h

    allowed_is : (b : Bool) → b ≡ settings_allowed s.vl s.level → not b ≡ false → settings_allowed s.vl s.level ≡ true
    allowed_is true e h = sym e
    allowed_is false e h = never refl h

    eight : (q : ℕ) → 16 * q % 8 ≡ 0
    eight q = omega arith

-- the same of the parts of a state
pub by_numbers : (s : State) (b w r : Bool) (u : Predicate) (pl : ℕ) (p c : List (List ℕ)) → Sized s → b ≡ settings_allowed s.vl s.level → not b ≡ false
    → u ≡ pack (λ k. some (λ i. bit_at (read_p s i) k) (length s.p)) → pl ≡ predicate_length s.vl → w ≡ not (has_bit_from pl u) → not w ≡ false → predicates_of p ≡ s.p → counts_from c ≡ s.counts
    → r ≡ not (some (unlike (leb pl 64) (predicates_of p) (counts_from c)) (min (length (predicates_of p)) (length (counts_from c)))) → r ≡ legal s
by_numbers s b w r u pl p c z hb n hu hp hw m ep ec hr =
    by_tallies s b w r u pl z hb n hu hp hw m (hr ∙ ap₂ (λ (ps : List Predicate) (cs : List Counts). not (some (unlike (leb pl 64) ps cs) (min (length ps) (length cs)))) ep ec)

-- ---- arrays made element by element

module _ {F B : Type 0} (g : Mut F (ℕ × Unit {0}) B) (f : F) (h : ℕ → B) (most : ℕ) (step : (i : ℕ) (y : B) (q : F) → i < most → Called g f (i, tt) y q → (y ≡ h i) × (q ≡ f)) where
  made_from : (ys : List B) (i n j : ℕ) (d : B) → i + n ≤ most → IsFromFnResultFrom g f ys i n → j < n → get_or ys (i + j) d ≡ h (i + j)
  made_from ys i zero j d a m l = absurd (omega arith)
  made_from ys i (suc n) zero d a (q, y, at, call, rest) l = rw add-zero (at.1 d ∙ (step i y q (omega arith) call).0)
  made_from ys i (suc n) (suc j) d a (q, y, at, call, rest) l =
      let m : IsFromFnResultFrom g f ys (i + 1) n = subst (λ (p : F). IsFromFnResultFrom g p ys (i + 1) n) (step i y q (omega arith) call).1 rest in
      let e : i + 1 + j ≡ i + suc j = omega arith in
      ap (λ (k : ℕ). get_or ys k d) (sym e) ∙ made_from ys (i + 1) n j d (omega arith) m (omega arith) ∙ ap h e

  -- where each call gives `h` of the index and leaves the function as it is, so has the array that it fills
  pub made_of : (ys : List B) (i : ℕ) (d : B) → IsFromFnResult g f ys most → i < most → get_or ys i d ≡ h i
  made_of ys i d m l = ap (λ (k : ℕ). get_or ys k d) (sym (zero-add i)) ∙ made_from ys 0 most i d (omega arith) m.each l ∙ ap h (zero-add i)

-- where each call gives `h` of the element at the index, it is `h` of the first elements
module _ {F A B : Type 0} (g : Mut F (ℕ × Unit {0}) B) (h : A → B) (f : F) (xs : List A) (ys : List B) (n : ℕ) (d : A) (m : IsFromFnResult g f ys n) where
  pub filled_front : n ≤ length xs → ((i : ℕ) (y : B) (q : F) → i < n → Called g f (i, tt) y q → (y ≡ h (get_or xs i d)) × (q ≡ f)) → ys ≡ map h (take n xs)
  filled_front e step =
      ext_get_or (h d) ys (map h (take n xs)) (m.long ∙ sym (length-map (take n xs) h ∙ length-take-le n xs e))
      (λ i k.
      let b : i < n = omega (arith, m.long) in
      made_of g f (λ j. h (get_or xs j d)) n step ys i (h d) m b ∙ sym (get_or-map h (take n xs) i d ∙ ap h (get_or-take n xs i d b)))

  pub filled : length xs ≡ n → ((i : ℕ) (y : B) (q : F) → i < n → Called g f (i, tt) y q → (y ≡ h (get_or xs i d)) × (q ≡ f)) → ys ≡ map h xs
  filled e step = filled_front (omega arith) step ∙ ap (λ (k : ℕ). map h (take k xs)) (sym e) ∙ ap (map h) (take-length xs)

pub by_words : (l : List (List ℕ)) → map (λ w. record { words = w }) l ≡ predicates_of l
unfolding predicates_of
by_words [] = refl
by_words (w ∷ l) = ap (λ (r : List Predicate). record { words = w } ∷ r) (by_words l)

pub by_numbers_as : (l : List (List ℕ)) → map counts_as l ≡ counts_from l
unfolding counts_from
by_numbers_as [] = refl
by_numbers_as (c ∷ l) = ap (λ (r : List Counts). counts_as c ∷ r) (by_numbers_as l)

-- ---- arrays written element by element

module _ {A : Type 0} where
  pub copied_more : (l m : List A) (i : ℕ) (d v : A) → i < length l → i < length m → v ≡ get_or m i d → take i l ≡ take i m → take (i + 1) (set l i v) ≡ take (i + 1) m
  copied_more l m i d v h k hv e =
      rw (add-one i) (take-suc-set l i v h ∙ ap (λ (r : List A). r ++ (v ∷ [])) e ∙ ap (λ (a : A). take i m ++ (a ∷ [])) hv ∙ sym (take-suc m i d k))

  pub copied_all : (l m : List A) (i : ℕ) → i ≡ length l → i ≡ length m → take i l ≡ take i m → l ≡ m
  copied_all l m i h k e = sym (take-length l) ∙ ap (λ (n : ℕ). take n l) (sym h) ∙ e ∙ ap (λ (n : ℕ). take n m) k ∙ take-length m

pub words_more : (r : List (List ℕ)) (p : List Predicate) (i : ℕ) (d : Predicate) → i < length r → i < length p → take i (predicates_of r) ≡ take i p
    → take (i + 1) (predicates_of (set r i (get_or p i d).words)) ≡ take (i + 1) p
words_more r p i d h k e = ap (take (i + 1)) (write_in r i (get_or p i d)) ∙ copied_more (predicates_of r) p i d (get_or p i d) (rw (predicates_length r) h) k refl e

pub numbers_more : (r : List (List ℕ)) (c : List Counts) (i : ℕ) (k : Counts) → i < length r → i < length c → k ≡ get_or c i no_counts → take i (counts_from r) ≡ take i c
    → take (i + 1) (counts_from (set r i (k.b ∷ k.h ∷ k.s ∷ k.d ∷ []))) ≡ take (i + 1) c
numbers_more r c i k h l hk e = ap (take (i + 1)) (counts_write r i k) ∙ copied_more (counts_from r) c i no_counts k (rw (counts_length r) h) l hk e

-- ---- the parts of a state make it again

pub parts_are : (s : State) (u : Settings) (f : List Bool) (p c : List (List ℕ)) → u ≡ settings_of s → f ≡ s.flags.n ∷ s.flags.z ∷ s.flags.c ∷ s.flags.v ∷ [] → predicates_of p ≡ s.p
    → counts_from c ≡ s.counts → state_at u f s.x p c ≡ s
parts_are s u f p c hu hf hp hc =
    ap (λ (v : Settings). state_at v f s.x p c) hu ∙ ap (λ (b : List Bool). state_at (settings_of s) b s.x p c) hf
    ∙ ap₂ (assembled s.vl s.level s.access s.flags s.x) hp hc
