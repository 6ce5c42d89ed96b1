-- The elements that a WHILE makes true are a span: the first ones, or the last. Assumes nothing.
use Rattle.std.proofs.Common.{◌≡◌, ℕ, zero, suc, ◌+◌, ◌-◌, ◌*◌, ◌<◌, ◌≤◌, min, Bool, true, false, not, ◌&&◌, eqb, ltb, sym, refl, ap, ◌∙◌, ap₂, arith, le-ltb, lt-ltb, eq-eqb, ne_eqb}
use mathlib.Core.Path.{fun_ext}
use native.Mathlib.Decide.{dec_lt, ℕ_discrete}
use Rattle.bits.specs.Choice.{pick}
use Rattle.bits.specs.Search.{count, some, scan, after_last}
use Rattle.bits.proofs.Searches.{count-le}
use Rattle.predicates.specs.declared.Flags.{Flags}
use Rattle.predicates.specs.PredTest.{every, pred_test, nzcv, at_lowest, at_highest}
use Rattle.predicates.specs.Predicate.{pack, spread, between, span_of}
use Rattle.predicates.proofs.Flagging.{flags_are, test_cong}
use Rattle.predicates.proofs.Spans.{between_yes, between_before, between-after, test_first, test_last}
use Rattle.scalars.specs.While.{all_held}
use Rattle.scalars.proofs.Comparisons.{held_first}
use Rattle.instructions.specs.Whiles.{while_element, low_half, high_half, span_flags}

-- of the first n comparisons
pub held-le : (held : ℕ → Bool) (n : ℕ) → count (all_held held) n ≤ n
held-le held n = count-le (all_held held) n

-- where the elements begin that held with all earlier ones, and where they end
abbrev pub start_of : Bool → ℕ → ℕ → ℕ
start_of up c n = pick up 0 (n - c)

abbrev pub end_of : Bool → ℕ → ℕ → ℕ
end_of up c n = pick up c n

pub end_le : (up : Bool) (c n : ℕ) → c ≤ n → end_of up c n ≤ n
end_le true c n h = h
end_le false c n h = omega arith

module _ (held : ℕ → Bool) (n c : ℕ) (is : c ≡ count (all_held held) n) where
  few : c ≤ n
  few = omega (arith, held-le held n, is)

  up_at : (e : ℕ) → while_element true held n e ≡ between 0 c e
  unfolding while_element
  up_at e =
      elim (dec_lt e n) [
        | no k ↦ ap (λ (x : Bool). x && all_held held e) (le-ltb e n (omega arith)) ∙ sym (between-after 0 c e (omega (arith, few)))
        | yes k ↦ ap₂ ◌&&◌ (lt-ltb e n k) (held_first held n e k ∙ ap (ltb e) (sym is)) ∙ elim (dec_lt e c) [
          | yes m ↦ lt-ltb e c m ∙ sym (between_yes 0 c e (omega arith) m)
          | no m ↦ le-ltb e c (omega arith) ∙ sym (between-after 0 c e (omega arith))
        ]
      ]

  down_at : (e : ℕ) → while_element false held n e ≡ between (n - c) n e
  unfolding while_element
  down_at e =
      elim (dec_lt e n) [
        | no k ↦ ap (λ (x : Bool). x && all_held held (n - 1 - e)) (le-ltb e n (omega arith)) ∙ sym (between-after (n - c) n e (omega arith))
        | yes k ↦ ap₂ ◌&&◌ (lt-ltb e n k) (held_first held n (n - 1 - e) (omega arith) ∙ ap (ltb (n - 1 - e)) (sym is)) ∙ elim (dec_lt (n - 1 - e) c) [
          | yes m ↦ lt-ltb (n - 1 - e) c m ∙ sym (between_yes (n - c) n e (omega arith) k)
          | no m ↦ le-ltb (n - 1 - e) c (omega arith) ∙ sym (between_before (n - c) n e (omega arith))
        ]
      ]

  pub while_elements : (up : Bool) → while_element up held n ≡ between (start_of up c n) (end_of up c n)
  while_elements true = fun_ext up_at
  while_elements false = fun_ext down_at

-- ---- flags

-- some, and all, of n elements
abbrev pub some_of : ℕ → Bool
some_of c = not (eqb c 0)

abbrev pub all_of : ℕ → ℕ → Bool
all_of c n = some_of c && eqb c n

abbrev pub count_flags : Bool → ℕ → ℕ → Flags
count_flags up c n = record { n = pick up (some_of c) (all_of c n); z = eqb c 0; c = pick up (not (all_of c n)) (eqb c 0); v = false }

all_is : (c n : ℕ) → 0 < n → all_of c n ≡ eqb c n
all_is c n h =
    elim (ℕ_discrete c 0) [
      | yes e ↦ ap (λ (x : Bool). not x && eqb c n) (eq-eqb c 0 e) ∙ sym (ne_eqb c n (omega arith))
      | no e ↦ ap (λ (x : Bool). not x && eqb c n) (ne_eqb c 0 e)
    ]

no_elements : (up : Bool) (q : ℕ → Bool) → pred_test every q 0 ≡ count_flags up 0 0
unfolding pred_test at_lowest at_highest some scan after_last
no_elements true q = refl
no_elements false q = refl

within : (up : Bool) (c n : ℕ) → c ≤ n → pred_test every (between (start_of up c n) (end_of up c n)) n ≡ count_flags up c n
within up c zero h = let e : c ≡ 0 = omega arith in rw e (no_elements up _)
within true c (suc n) h = test_first c (suc n) (omega arith) h ∙ flags_are refl refl (ap not (sym (all_is c (suc n) (omega arith))))
within false c (suc n) h = test_last c (suc n) (omega arith) h ∙ flags_are (sym (all_is c (suc n) (omega arith))) refl refl

-- a count past n is n
past_all : (up : Bool) (c n e : ℕ) → n ≤ c → e < n → between (start_of up c n) (end_of up c n) e ≡ between (start_of up n n) (end_of up n n) e
past_all true c n e h l = between_yes 0 c e (omega arith) (omega arith) ∙ sym (between_yes 0 n e (omega arith) l)
past_all false c n e h l = ap (λ (x : ℕ). between x n e) (omega arith)

pub span_flags_lem : (up : Bool) (c n m : ℕ) → m ≡ min c n → span_flags up c n ≡ count_flags up m n
unfolding span_flags
span_flags_lem up c n m is =
    elim (dec_lt c n) [
      | yes l ↦ let same : c ≡ m = omega arith in rw (← same) (within up c n (omega arith))
      | no l ↦ let same : n ≡ m = omega arith in rw (← same) (test_cong every _ _ n (λ e k. past_all up c n e (omega arith) k) ∙ within up n n (omega arith))
    ]

-- so it may be cut off there
pub span_capped : (up : Bool) (c n m : ℕ) → m ≡ min c n → span_flags up m n ≡ span_flags up c n
span_capped up c n m is = span_flags_lem up m n m (omega arith) ∙ sym (span_flags_lem up c n m is)

-- ---- the halves of a pair

pub low_half_lem : (n from to e : ℕ) → low_half n (between from to) e ≡ between from (min to n) e
low_half_lem n from to e =
    elim (dec_lt e n) [
      | no k ↦ ap (λ (x : Bool). x && between from to e) (le-ltb e n (omega arith)) ∙ sym (between-after from (min to n) e (omega arith))
      | yes k ↦ ap (λ (x : Bool). x && between from to e) (lt-ltb e n k) ∙ elim (dec_lt e from) [
        | yes m ↦ between_before from to e m ∙ sym (between_before from (min to n) e m)
        | no m ↦ elim (dec_lt e to) [
          | yes l ↦ between_yes from to e (omega arith) l ∙ sym (between_yes from (min to n) e (omega arith) (omega arith))
          | no l ↦ between-after from to e (omega arith) ∙ sym (between-after from (min to n) e (omega arith))
        ]
      ]
    ]

pub high_half_lem : (n from to e : ℕ) → to ≤ 2 * n → high_half n (between from to) e ≡ between (from - n) (to - n) e
high_half_lem n from to e h =
    elim (dec_lt e n) [
      | no k ↦ ap (λ (x : Bool). x && between from to (n + e)) (le-ltb e n (omega arith)) ∙ sym (between-after (from - n) (to - n) e (omega arith))
      | yes k ↦ ap (λ (x : Bool). x && between from to (n + e)) (lt-ltb e n k) ∙ elim (dec_lt (n + e) from) [
        | yes m ↦ between_before from to (n + e) m ∙ sym (between_before (from - n) (to - n) e (omega arith))
        | no m ↦ elim (dec_lt (n + e) to) [
          | yes l ↦ between_yes from to (n + e) (omega arith) l ∙ sym (between_yes (from - n) (to - n) e (omega arith) (omega arith))
          | no l ↦ between-after from to (n + e) (omega arith) ∙ sym (between-after (from - n) (to - n) e (omega arith))
        ]
      ]
    ]

-- ---- as the code has them: n elements, c of them true, counted up or down

pub record Spanned (held : ℕ → Bool) (N : ℕ) (U : Bool) (k from to f : ℕ) : Type 0 where
  pub predicate : span_of k from to ≡ pack (spread k (while_element U held N))
  pub flags : f ≡ nzcv (pred_test every (while_element U held N) N)

pub spanned : (held : ℕ → Bool) (n N c : ℕ) (up U : Bool) (k from to f : ℕ) → n ≡ N → up ≡ U → c ≡ count (all_held held) n
    → from ≡ start_of up c n → to ≡ end_of up c n → f ≡ nzcv (span_flags up c n) → Spanned held N U k from to f
unfolding span_flags
spanned held n N c up U k from to f en eu ec ef et eg =
    let q = while_elements held n c ec up in
    record {
      predicate = ap₂ (span_of k) ef et ∙ sym (ap (λ (x : ℕ → Bool). pack (spread k x)) q) ∙ ap₂ (λ (m : ℕ) (t : Bool). pack (spread k (while_element t held m))) en eu;
      flags =
          eg ∙ sym (ap (λ (x : ℕ → Bool). nzcv (pred_test every x n)) q)
          ∙ ap₂ (λ (m : ℕ) (t : Bool). nzcv (pred_test every (while_element t held m) m)) en eu;
    }

pub record Halved (held : ℕ → Bool) (N : ℕ) (U : Bool) (k from low_end high_start high_end f : ℕ) : Type 0 where
  pub low : span_of k from low_end ≡ pack (spread k (low_half N (while_element U held (2 * N))))
  pub high : span_of k high_start high_end ≡ pack (spread k (high_half N (while_element U held (2 * N))))
  pub flags : f ≡ nzcv (pred_test every (while_element U held (2 * N)) (2 * N))

pub halved : (held : ℕ → Bool) (m n N c : ℕ) (up U : Bool) (k from to low_end high_start high_end f : ℕ) → m ≡ 2 * n → n ≡ N → up ≡ U → c ≡ count (all_held held) m
    → from ≡ start_of up c m → to ≡ end_of up c m → low_end ≡ min to n → high_start ≡ from - n → high_end ≡ to - n → f ≡ nzcv (span_flags up c m)
    → Halved held N U k from low_end high_start high_end f
halved held m n N c up U k from to low_end high_start high_end f em en eu ec ef et el eh ee eg =
    let q : between from to ≡ while_element up held (2 * n) = ap₂ between ef et ∙ sym (while_elements held m c ec up) ∙ ap (while_element up held) em in
    let ends : to ≤ 2 * n = omega (arith, et, end_le up c m (omega (arith, held-le held m, ec))) in
    record {
      low =
          ap (span_of k from) el ∙ ap (λ (x : ℕ → Bool). pack (spread k x)) (fun_ext (λ e. sym (low_half_lem n from to e)) ∙ ap (low_half n) q)
          ∙ ap₂ (λ (m : ℕ) (t : Bool). pack (spread k (low_half m (while_element t held (2 * m))))) en eu;
      high =
          ap₂ (span_of k) eh ee ∙ ap (λ (x : ℕ → Bool). pack (spread k x)) (fun_ext (λ e. sym (high_half_lem n from to e ends)) ∙ ap (high_half n) q)
          ∙ ap₂ (λ (m : ℕ) (t : Bool). pack (spread k (high_half m (while_element t held (2 * m))))) en eu;
      flags = (spanned held m (2 * N) c up U k from to f (em ∙ ap (λ (x : ℕ). 2 * x) en) eu ec ef et eg).flags;
    }
