-- Laws of the searches among the numbers below a bound. What `first_from` and `after_last` find is stated once, as a record, and nothing else has it.
-- Assumes nothing.
use mathlib.Core.Bool.{Bool, true, false, not, ◌&&◌, ◌||◌, and-true, and-false}
use mathlib.Core.Logic.{⊎_elim}
use mathlib.Core.Path.{◌≡◌, refl, sym, ap, ap₂, ◌∙◌}
use Prim.Native.Nat.{ℕ, zero, suc, ◌+◌, ◌-◌, ◌≤◌, ◌<◌, zero-le, min}
use native.Mathlib.Decide.{dec_lt}
use native.Mathlib.Nat.{add-zero, add-suc, eq-or-lt_of_le, le_refl}
use native.Mathlib.Numerals.{add-one}
use native.Mathlib.Omega.{arith}
use lib.Dec.{ltb}
use borrow.Author.Tests.{lt-ltb, le-ltb}
use Rattle.bits.specs.Choice.{pick, digit}
use Rattle.bits.specs.Search.{count, some, after_last, scan, first_from}

pub never : {A : Type 0} {b : Bool} → b ≡ true → b ≡ false → A
never p q = let z : ◌≡◌ {A = ℕ} 0 1 = cc in absurd (omega arith)

pub digit_lt : (b : Bool) → digit b < 2
digit_lt true = omega arith
digit_lt false = omega arith

-- ---- counts

pub count_cong : (f g : ℕ → Bool) (n : ℕ) → ((e : ℕ) → e < n → f e ≡ g e) → count f n ≡ count g n
unfolding count
count_cong f g zero h = refl
count_cong f g (suc n) h = ap₂ (λ (x y : ℕ). x + y) (count_cong f g n (λ e k. h e (omega arith))) (ap digit (h n (omega arith)))

pub count-le : (f : ℕ → Bool) (n : ℕ) → count f n ≤ n
unfolding count
count-le f zero = zero-le
count-le f (suc n) = omega (arith, count-le f n, digit_lt (f n))

pub count_none : (f : ℕ → Bool) (n : ℕ) → ((e : ℕ) → e < n → f e ≡ false) → count f n ≡ 0
unfolding count
count_none f zero h = refl
count_none f (suc n) h = ap₂ (λ (x y : ℕ). x + y) (count_none f n (λ e k. h e (omega arith))) (ap digit (h n (omega arith)))

pub count_all : (f : ℕ → Bool) (n : ℕ) → ((e : ℕ) → e < n → f e ≡ true) → count f n ≡ n
unfolding count
count_all f zero h = refl
count_all f (suc n) h = rw (count_all f n (λ e k. h e (omega arith)), h n (omega arith), add-one)

-- the lowest number first
pub count_low : (f : ℕ → Bool) (n : ℕ) → count f (suc n) ≡ digit (f 0) + count (λ e. f (suc e)) n
unfolding count
count_low f zero = omega arith
count_low f (suc n) = ap (λ (x : ℕ). x + digit (f (suc n))) (count_low f n) ∙ omega arith

pub count_add : (f : ℕ → Bool) (a b : ℕ) → count f (a + b) ≡ count f a + count (λ e. f (a + e)) b
unfolding count
count_add f a zero = ap (count f) (add-zero a) ∙ sym (add-zero (count f a))
count_add f a (suc b) = ap (count f) (add-suc a b) ∙ ap (λ (x : ℕ). x + digit (f (a + b))) (count_add f a b) ∙ omega arith

-- numbers from n on that do not pass add nothing
pub count_end_lem : (f : ℕ → Bool) (n m : ℕ) → n ≤ m → ((e : ℕ) → n ≤ e → e < m → f e ≡ false) → count f m ≡ count f n
count_end_lem f n m h z =
    let e : m ≡ n + (m - n) = omega arith in
    ap (count f) e ∙ count_add f n (m - n) ∙ ap (λ (x : ℕ). count f n + x) (count_none _ (m - n) (λ e l. z (n + e) (omega arith) (omega arith))) ∙ add-zero (count f n)

pub count_mono : (f : ℕ → Bool) (n m : ℕ) → n ≤ m → count f n ≤ count f m
count_mono f n m h = let e : m ≡ n + (m - n) = omega arith in omega (arith, ap (count f) e, count_add f n (m - n))

-- ---- counts below a bound m, and not below it

pub count-below : (f : ℕ → Bool) (m n : ℕ) → count (λ e. f e && ltb e m) n ≡ count f (min n m)
count-below f m n =
    elim (dec_lt m n) [
      | yes l ↦
          let least : min n m ≡ m = omega arith in
          count_end_lem (λ e. f e && ltb e m) m n (omega arith) (λ e a b. ap (λ (t : Bool). f e && t) (le-ltb e m a) ∙ and-false (f e))
          ∙ under m (omega arith) ∙ ap (count f) (sym least)
      | no l ↦
          let least : min n m ≡ n = omega arith in
          under n (omega arith) ∙ ap (count f) (sym least)
    ]
  where
    under : (k : ℕ) → k ≤ m → count (λ e. f e && ltb e m) k ≡ count f k
    under k h = count_cong _ _ k (λ e l. ap (λ (t : Bool). f e && t) (lt-ltb e m (omega arith)) ∙ and-true (f e))

-- those that pass a second test, and those that do not
count_apart : (f g : ℕ → Bool) (n : ℕ) → count (λ e. f e && g e) n + count (λ e. f e && not (g e)) n ≡ count f n
unfolding count
count_apart f g zero = refl
count_apart f g (suc n) = omega (arith, count_apart f g n, one (f n) (g n))
  where
    one : (a b : Bool) → digit (a && b) + digit (a && not b) ≡ digit a
    one true true = refl
    one true false = refl
    one false b = refl

pub count-not-below : (f : ℕ → Bool) (m n : ℕ) → count (λ e. f e && not (ltb e m)) n ≡ count f n - count f (min n m)
count-not-below f m n = omega (arith, count_apart f (λ e. ltb e m) n, count-below f m n)

-- ---- whether some number passes

or-true : (b : Bool) → (b || true) ≡ true
or-true true = refl
or-true false = refl

or-false : (a b : Bool) → (a || b) ≡ false → (a ≡ false) × (b ≡ false)
or-false true b h = never refl h
or-false false b h = (refl, h)

pub some_yes : (f : ℕ → Bool) (n e : ℕ) → e < n → f e ≡ true → some f n ≡ true
unfolding some
some_yes f zero e h t = absurd (omega arith)
some_yes f (suc n) e h t =
    elim (dec_lt e n) [
      | yes k ↦ ap (λ (b : Bool). f n || b) (some_yes f n e k t) ∙ or-true (f n)
      | no k ↦ let s : n ≡ e = omega arith in rw (s, t)
    ]

pub some_no : (f : ℕ → Bool) (n : ℕ) → ((e : ℕ) → e < n → f e ≡ false) → some f n ≡ false
unfolding some
some_no f zero h = refl
some_no f (suc n) h = rw (h n (omega arith)) (some_no f n (λ e k. h e (omega arith)))

-- where none passes, a given one does not
pub some-none : (f : ℕ → Bool) (n : ℕ) → some f n ≡ false → (e : ℕ) → e < n → f e ≡ false
unfolding some
some-none f zero h e l = absurd (omega arith)
some-none f (suc n) h e l =
    let k = or-false (f n) (some f n) h in
    elim (dec_lt e n) [ yes m ↦ some-none f n k.1 e m | no m ↦ let s : n ≡ e = omega arith in rw s at k.0 ]

-- where some number passes, here is one
pub some_found : (f : ℕ → Bool) (n : ℕ) → some f n ≡ true → (e : ℕ) × (e < n) × (f e ≡ true)
unfolding some
some_found f zero h = never h refl
some_found f (suc n) h = go (f n) refl (some_found f n)
  where
    go : (b : Bool) → f n ≡ b → (some f n ≡ true → (e : ℕ) × (e < n) × (f e ≡ true)) → (e : ℕ) × (e < suc n) × (f e ≡ true)
    go true t more = (n, omega arith, t)
    go false t more = let (e, l, s) = more (rw t at h) in (e, omega arith, s)

pub some_cong : (f g : ℕ → Bool) (n : ℕ) → ((e : ℕ) → e < n → f e ≡ g e) → some f n ≡ some g n
unfolding some
some_cong f g zero h = refl
some_cong f g (suc n) h = ap₂ ◌||◌ (h n (omega arith)) (some_cong f g n (λ e k. h e (omega arith)))

-- ---- the last that passes

-- r is one more than the last number below n that passes, or 0
pub record Last (f : ℕ → Bool) (n r : ℕ) : Type 0 where
  pub upto : r ≤ n
  pub none : (e : ℕ) → r ≤ e → e < n → f e ≡ false
  pub hit : (e : ℕ) → r ≡ suc e → f e ≡ true

pub last_found : (f : ℕ → Bool) (n : ℕ) → Last f n (after_last f n)
unfolding after_last
last_found f zero = record { upto = zero-le; none = λ e l h. absurd (omega arith); hit = λ e h. absurd (omega arith) }
last_found f (suc n) = go (f n) refl (last_found f n)
  where
    go : (b : Bool) → f n ≡ b → Last f n (after_last f n) → Last f (suc n) (pick (f n) (suc n) (after_last f n))
    go true t r = rw t (record {
      upto = le_refl (suc n);
      none = λ e l h. absurd (omega arith);
      hit = λ e h. let s : n ≡ e = omega arith in rw s at t;
    })
    go false t r = rw t (record {
      upto = omega (arith, r.upto);
      none = λ e l h. elim (dec_lt e n) [ yes k ↦ r.none e l k | no k ↦ let s : n ≡ e = omega arith in rw s at t ];
      hit = λ e h. r.hit e h;
    })

last_order : (f : ℕ → Bool) (n r q : ℕ) → Last f n r → Last f n q → r ≤ q
last_order f n zero q a b = zero-le
last_order f n (suc e) q a b =
    elim (dec_lt e q) [
      | yes k ↦ k
      | no k ↦ never (a.hit e refl) (b.none e (omega arith) (omega (arith, a.upto)))
    ]

pub last_is : (f : ℕ → Bool) (n r : ℕ) → Last f n r → r ≡ after_last f n
last_is f n r a = let b = last_found f n in omega (arith, last_order f n r (after_last f n) a b, last_order f n (after_last f n) r b a)

pub last_cong : (f g : ℕ → Bool) (n : ℕ) → ((e : ℕ) → e < n → f e ≡ g e) → after_last f n ≡ after_last g n
unfolding after_last
last_cong f g zero h = refl
last_cong f g (suc n) h = ap₂ (λ (b : Bool) (r : ℕ). pick b (suc n) r) (h n (omega arith)) (last_cong f g n (λ e k. h e (omega arith)))

-- ---- the first that passes

-- r is the first number from `start` on and below n that passes, or n
pub record First (f : ℕ → Bool) (start n r : ℕ) : Type 0 where
  pub from : start ≤ r
  pub upto : r ≤ n
  pub none : (e : ℕ) → start ≤ e → e < r → f e ≡ false
  pub hit : r < n → f r ≡ true

scan_found : (f : ℕ → Bool) (k next : ℕ) → First f next (next + k) (scan f k next)
unfolding scan
scan_found f zero next = record { from = le_refl next; upto = omega arith; none = λ e l h. absurd (omega arith); hit = λ h. absurd (omega arith) }
scan_found f (suc k) next = go (f next) refl (scan_found f k (suc next))
  where
    go : (b : Bool) → f next ≡ b → First f (suc next) (suc next + k) (scan f k (suc next)) → First f next (next + suc k) (pick (f next) next (scan f k (suc next)))
    go true t r = rw t (record { from = le_refl next; upto = omega arith; none = λ e l h. absurd (omega arith); hit = λ h. t })
    go false t r = rw t (record {
      from = omega (arith, r.from);
      upto = omega (arith, r.upto);
      none = λ e l h. ⊎_elim (λ (m : next ≡ e). ap f (sym m) ∙ t) (λ (m : next < e). r.none e m h) (eq-or-lt_of_le l);
      hit = λ h. r.hit (omega arith);
    })

pub first_found : (f : ℕ → Bool) (start n : ℕ) → start ≤ n → First f start n (first_from f start n)
first_found f start n h = let e : start + (n - start) ≡ n = omega arith in rw e at (scan_found f (n - start) start)

first_order : {f : ℕ → Bool} {start n r q : ℕ} → First f start n r → First f start n q → r ≤ q
first_order {f} {start} {n} {r} {q} a b =
    elim (dec_lt q r) [
      | yes k ↦ never (b.hit (omega (arith, a.upto))) (a.none q b.from k)
      | no k ↦ omega arith
    ]

pub first_is : (f : ℕ → Bool) (start n r : ℕ) → First f start n r → r ≡ first_from f start n
first_is f start n r a = let b = first_found f start n (omega (arith, a.from, a.upto)) in omega (arith, first_order a b, first_order b a)

pub first_cong : (f g : ℕ → Bool) (start n : ℕ) → start ≤ n → ((e : ℕ) → start ≤ e → e < n → f e ≡ g e) → first_from f start n ≡ first_from g start n
first_cong f g start n l h =
    let r = first_found f start n l in
    first_is g start n (first_from f start n) (record {
      from = r.from;
      upto = r.upto;
      none = λ e a b. sym (h e a (omega (arith, r.upto))) ∙ r.none e a b;
      hit = λ a. sym (h (first_from f start n) r.from a) ∙ r.hit a;
    })

-- the search, turn by turn
pub first_end : (f : ℕ → Bool) (start n : ℕ) → n ≤ start → first_from f start n ≡ start
unfolding scan
first_end f start n h = let e : n - start ≡ 0 = omega arith in rw e

pub first_hit : (f : ℕ → Bool) (start n : ℕ) → start < n → f start ≡ true → first_from f start n ≡ start
unfolding scan
first_hit f start n l h = let e : n - start ≡ suc (n - suc start) = omega arith in rw (e, scan, h)

pub first_miss : (f : ℕ → Bool) (start n : ℕ) → start < n → f start ≡ false → first_from f start n ≡ first_from f (start + 1) n
unfolding scan
first_miss f start n l h = let e : n - start ≡ suc (n - suc start) = omega arith in rw (add-one, e, scan, h)

-- the search one number further on
scan-suc : (f : ℕ → Bool) (k next : ℕ) → scan f k (suc next) ≡ suc (scan (λ e. f (suc e)) k next)
unfolding scan
scan-suc f zero next = refl
scan-suc f (suc k) next = ap (pick (f (suc next)) (suc next)) (scan-suc f k (suc next)) ∙ out (f (suc next)) next (scan (λ e. f (suc e)) k (suc next))
  where
    out : (b : Bool) (m n : ℕ) → pick b (suc m) (suc n) ≡ suc (pick b m n)
    out true m n = refl
    out false m n = refl

pub first-low : (f : ℕ → Bool) (n : ℕ) → first_from f 0 (suc n) ≡ pick (f 0) 0 (suc (first_from (λ e. f (suc e)) 0 n))
unfolding scan
first-low f n =
    let whole : suc n - 0 ≡ suc n = omega arith in
    let rest : n - 0 ≡ n = omega arith in
    rw (whole, rest) (ap (pick (f 0) 0) (scan-suc f n 0))

pub first-le : (f : ℕ → Bool) (n : ℕ) → first_from f 0 n ≤ n
first-le f n = (first_found f 0 n zero-le).upto

pub last_le : (f : ℕ → Bool) (n : ℕ) → after_last f n ≤ n
last_le f n = (last_found f n).upto

-- ---- a search within a search

same_truth : (a b : Bool) → (a ≡ true → b ≡ true) → (b ≡ true → a ≡ true) → a ≡ b
same_truth true b f g = sym (f refl)
same_truth false true f g = g refl
same_truth false false f g = refl

some-over : (f : ℕ → ℕ → Bool) (m n : ℕ) → some (λ a. some (λ b. f a b) m) n ≡ true → some (λ b. some (λ a. f a b) n) m ≡ true
some-over f m n h =
    let (a, l, s) = some_found (λ a. some (λ b. f a b) m) n h in
    let (b, k, t) = some_found (λ b. f a b) m s in
    some_yes (λ b. some (λ a. f a b) n) m b k (some_yes (λ a. f a b) n a l t)

-- the order of the two searches does not matter
pub some_swap : (f : ℕ → ℕ → Bool) (m n : ℕ) → some (λ a. some (λ b. f a b) m) n ≡ some (λ b. some (λ a. f a b) n) m
some_swap f m n = same_truth _ _ (some-over f m n) (some-over (λ b a. f a b) n m)

pub some-and : (t : Bool) (f : ℕ → Bool) (n : ℕ) → (t && some f n) ≡ some (λ e. t && f e) n
some-and true f n = refl
some-and false f n = sym (some_no (λ e. false) n (λ e l. refl))

-- ---- a search that stops earlier

-- what is found below m is found whatever the bound above it
pub first_below : (f : ℕ → Bool) (m n : ℕ) → m ≤ n → first_from f 0 n < m → first_from f 0 m ≡ first_from f 0 n
first_below f m n h l =
    let r = first_found f 0 n zero-le in
    sym (first_is f 0 m (first_from f 0 n) (record { from = zero-le; upto = omega arith; none = r.none; hit = λ a. r.hit (omega arith) }))

pub first_beyond : (f : ℕ → Bool) (m n : ℕ) → m ≤ first_from f 0 n → first_from f 0 m ≡ m
first_beyond f m n h =
    let r = first_found f 0 n zero-le in
    sym (first_is f 0 m m (record { from = zero-le; upto = omega arith; none = λ e a b. r.none e a (omega arith); hit = λ a. absurd (omega arith) }))
