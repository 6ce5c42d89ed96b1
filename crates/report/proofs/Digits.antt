-- Laws of digits: what writes and counts them. Assumes nothing.
use mathlib.Core.Bool.{Bool, true, false}
use mathlib.Core.List.{List, [], ◌∷◌, ◌++◌}
use mathlib.Core.Path.{◌≡◌, refl, sym, ap, ◌∙◌}
use Prim.Native.Nat.{ℕ, zero, suc, ◌+◌, ◌-◌, ◌*◌, ◌/◌, ◌%◌, ◌^◌, ◌≤◌, ◌<◌}
use native.Mathlib.Decide.{dec_lt}
use native.Mathlib.Nat.{add-zero, add-suc, suc-add, pow-suc, div-lt_iff_lt-mul}
use native.Mathlib.Numerals.{add-one}
use native.Mathlib.Omega.{arith}
use mir.Val.{bool_byte}
use lib.Dec.{lit<}
use lib.ListN.{length, set, length-append}
use lib.Seq.{sets, set_comm}
use borrow.Author.Tests.{lt-ltb, le-ltb}
use Rattle.std.specs.Prelude.{Option, None, Some, IfNone, IfSome, unwrap_or}
use Rattle.bits.specs.Choice.{digit}
use Rattle.report.specs.Lines.{symbol, digits, decimal_in, decimal}

pub symbol_low : (d : ℕ) → d < 10 → 48 + d ≡ symbol d
unfolding symbol
symbol_low d h = rw (lt-ltb d 10 h)

pub symbol_high : (d : ℕ) → 10 ≤ d → 87 + d ≡ symbol d
unfolding symbol
symbol_high d h = rw (le-ltb d 10 h)

pub bit_symbol : (b : Bool) → 48 + bool_byte b ≡ symbol (digit b)
unfolding symbol
bit_symbol true = refl
bit_symbol false = refl

-- ---- stores

pub sets_append : (l : List ℕ) (i : ℕ) (a b : List ℕ) → sets l i (a ++ b) ≡ sets (sets l i a) (i + length a) b
sets_append l i [] b = rw add-zero
sets_append l i (x ∷ a) b = sets_append (set l i x) (suc i) a b ∙ rw (suc-add, add-suc)

-- a store past a run of stores may come before it
set_sets : (l : List ℕ) (j s at : ℕ) (vs : List ℕ) → at + length vs ≤ j → sets (set l j s) at vs ≡ set (sets l at vs) j s
set_sets l j s at [] h = refl
set_sets l j s at (v ∷ vs) h = ap (λ (z : List ℕ). sets z (suc at) vs) (set_comm l j at s v (λ e. omega arith)) ∙ set_sets (set l at v) j s (suc at) vs (omega arith)

pub last_first : (l : List ℕ) (at k s : ℕ) (vs : List ℕ) → length vs ≡ k → sets (set l (at + k) s) at vs ≡ sets l at (vs ++ (s ∷ []))
last_first l at k s vs e = set_sets l (at + k) s at vs (omega arith) ∙ rw (sets_append l at vs (s ∷ []), e)

-- ---- digits of a base

pub length_digits : (base k n : ℕ) → length (digits base k n) ≡ k
unfolding digits
length_digits base zero n = refl
length_digits base (suc k) n = simp (length-append, length_digits base k (n / base)) (omega arith)

-- a turn of the loop that writes them from the last to the first: what is left to write
pub digit-turn : (l : List ℕ) (at i base v s : ℕ) → 0 < i → s ≡ symbol (v % base)
    → sets (set l (at + (i - 1)) s) at (digits base (i - 1) (v / base)) ≡ sets l at (digits base i v)
unfolding digits
digit-turn l at zero base v s h e = absurd (omega arith)
digit-turn l at (suc i) base v s h e =
    let d : suc i - 1 ≡ i = omega arith in
    rw (d, e) (last_first l at i (symbol (v % base)) (digits base i (v / base)) (length_digits base i (v / base)))

-- the digits, and then one byte
pub field_end : (l m : List ℕ) (at i base k v rest s : ℕ) → i ≤ 0 → sets m at (digits base i rest) ≡ sets l at (digits base k v)
    → set m (at + k) s ≡ sets l at (digits base k v ++ (s ∷ []))
unfolding digits
field_end l m at zero base k v rest s h e = rw (e, sets_append l at (digits base k v) (s ∷ []), length_digits)
field_end l m at (suc i) base k v rest s h e = absurd (omega arith)

-- ---- decimal digits

pub decimal_one : (n : ℕ) → n < 10 → decimal n ≡ symbol n ∷ []
unfolding decimal_in
decimal_one zero h = refl
decimal_one (suc n) h = rw (lt-ltb (suc n) 10 h)

-- any number of steps that is enough
enough : (j k n : ℕ) → n ≤ j → n ≤ k → decimal_in j n ≡ decimal_in k n
unfolding decimal_in
enough zero zero n a b = refl
enough zero (suc k) n a b = rw (lt-ltb n 10 (omega arith))
enough (suc j) zero n a b = rw (lt-ltb n 10 (omega arith))
enough (suc j) (suc k) n a b =
    elim (dec_lt n 10) [
      | yes h ↦ rw (lt-ltb n 10 h)
      | no h ↦ rw (le-ltb n 10 (omega arith), enough j k (n / 10) (omega arith) (omega arith))
    ]

pub decimal_more : (n : ℕ) → 10 ≤ n → decimal n ≡ decimal (n / 10) ++ (symbol (n % 10) ∷ [])
unfolding decimal_in
decimal_more zero h = absurd (omega arith)
decimal_more (suc n) h = rw (le-ltb (suc n) 10 h, enough n (suc n / 10) (suc n / 10) (omega arith) (omega arith))

pub length_more : (n : ℕ) → 10 ≤ n → length (decimal n) ≡ length (decimal (n / 10)) + 1
length_more n h = ap length (decimal_more n h) ∙ length-append (decimal (n / 10)) (symbol (n % 10) ∷ [])

pub length_most : (k n : ℕ) → n < 10 ^ suc k → length (decimal n) ≤ suc k
length_most zero n h = rw (decimal_one n h) (omega arith)
length_most (suc k) n h =
    elim (dec_lt n 10) [
      | yes l ↦ rw (decimal_one n l) (omega arith)
      | no l ↦ rw (length_more n (omega arith)) (omega (arith, length_most k (n / 10) ((div-lt_iff_lt-mul (lit< tt)).1 (rw pow-suc at h))))
    ]

length_between : (k n : ℕ) → 10 ^ k ≤ n → n < 10 * 10 ^ k → length (decimal n) ≡ k + 1
length_between zero n l h = ap length (decimal_one n (omega arith))
length_between (suc k) n l h =
    let p : 10 ^ suc k ≡ 10 ^ k * 10 = pow-suc 10 k in
    let i : length (decimal (n / 10)) ≡ k + 1 = length_between k (n / 10) (omega arith) (omega arith) in
    omega (arith, length_more n (omega arith))

-- one more than the logarithm to the base 10, and 1 of 0
pub length_logarithm : (n : ℕ) (o : Option ℕ) → IfNone o (n ≡ 0) → IfSome o (λ k. 10 ^ k ≤ n) → IfSome o (λ k. n < 10 * 10 ^ k) → unwrap_or o 0 + 1 ≡ length (decimal n)
unfolding decimal_in
length_logarithm n None z l h = rw z refl
length_logarithm n (Some k) z l h = sym (length_between k n l h)

by_digits : (k n : ℕ) → n ≤ k → decimal_in k n ≡ digits 10 (length (decimal_in k n)) n
unfolding decimal_in digits
by_digits zero n h = let e : n % 10 ≡ n = omega arith in rw e
by_digits (suc k) n h =
    elim (dec_lt n 10) [
      | yes l ↦ let e : n % 10 ≡ n = omega arith in rw (lt-ltb n 10 l, e)
      | no l ↦
          let e : length (decimal_in k (n / 10) ++ (symbol (n % 10) ∷ [])) ≡ suc (length (decimal_in k (n / 10))) = simp length-append (add-one _) in
          rw (le-ltb n 10 (omega arith), e) (ap (λ (l : List ℕ). l ++ (symbol (n % 10) ∷ [])) (by_digits k (n / 10) (omega arith)))
    ]

pub decimal-digits : (n : ℕ) → decimal n ≡ digits 10 (length (decimal n)) n
decimal-digits n = by_digits n n (omega arith)
