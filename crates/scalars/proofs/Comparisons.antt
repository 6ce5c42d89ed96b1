-- Laws of WHILE's operand and of how many comparisons hold, over the width. Assumes nothing.
use Rattle.std.proofs.Common.{◌≡◌, ℕ, suc, ◌+◌, ◌<◌, ◌≤◌, Bool, true, false, not, ltb, sym, refl, ap, ◌∙◌, add-one, arith, le-ltb, lt-ltb}
use native.Mathlib.Decide.{dec_lt}
use mir.Syntax.{Width}
use Rattle.bits.specs.Search.{count, first_from}
use Rattle.bits.proofs.Searches.{count_end_lem, count_all, first_end, first_hit, first_miss, first_found, some_yes, some_no}
use Rattle.scalars.specs.declared.Condition.{Condition}
use Rattle.scalars.specs.Value.{value_as}
use Rattle.scalars.specs.Inside.{held_of}
use Rattle.scalars.specs.While.{holds, upward, next_operand, operand_at, comparison, all_held}

pub operand_first : (w : Width) (up : Bool) (a : ℕ) → operand_at w up a 0 ≡ a
unfolding operand_at
operand_first w up a = refl

pub operand_next : (w : Width) (up : Bool) (a i : ℕ) → operand_at w up a (i + 1) ≡ next_operand w up (operand_at w up a i)
unfolding operand_at
operand_next w up a i = ap (operand_at w up a) (add-one i)

-- the loop of comparisons: before turn i the operand is that of comparison i, and the first that fails is sought from i on
pub record At (w : Width) (unsigned : Bool) (c : Condition) (a b n operand i : ℕ) : Type 0 where
  pub operand_is : operand ≡ operand_at w (upward c) a i
  pub sought : first_from (λ e. not (comparison w unsigned c a b e)) i n ≡ held_of (comparison w unsigned c a b) n

module _ (w : Width) (unsigned : Bool) (c : Condition) (a b n : ℕ) where
  pub begin : At w unsigned c a b n a 0
  begin = record { operand_is = sym (operand_first w (upward c) a); sought = refl }

  now : (operand i : ℕ) (t : Bool) → At w unsigned c a b n operand i → t ≡ holds c (value_as w unsigned operand) (value_as w unsigned b) → t ≡ comparison w unsigned c a b i
  unfolding comparison
  now operand i t s e = e ∙ ap (λ (x : ℕ). holds c (value_as w unsigned x) (value_as w unsigned b)) s.operand_is

  -- a comparison that holds: one more
  pub again : (operand next i : ℕ) (t up : Bool) → At w unsigned c a b n operand i → i < n → t ≡ holds c (value_as w unsigned operand) (value_as w unsigned b) → t ≡ true
      → up ≡ upward c → next ≡ next_operand w up operand → At w unsigned c a b n next (i + 1)
  again operand next i t up s l e h eu en =
      record {
        operand_is = en ∙ ap (λ (u : Bool). next_operand w u operand) eu ∙ ap (next_operand w (upward c)) s.operand_is ∙ sym (operand_next w (upward c) a i);
        sought = sym (first_miss _ i n l (ap not (sym (now operand i t s e) ∙ h))) ∙ s.sought;
      }

  -- one that fails: the count is here
  pub stops : (operand i : ℕ) (t : Bool) → At w unsigned c a b n operand i → i < n → t ≡ holds c (value_as w unsigned operand) (value_as w unsigned b) → t ≡ false
      → i ≡ held_of (comparison w unsigned c a b) n
  stops operand i t s l e h = sym (first_hit _ i n l (ap not (sym (now operand i t s e) ∙ h))) ∙ s.sought

  -- all hold
  pub ends : (operand i : ℕ) → At w unsigned c a b n operand i → i ≤ n → n ≤ i → n ≡ held_of (comparison w unsigned c a b) n
  ends operand i s u l =
      let last : n ≡ i = omega arith in
      last ∙ sym (first_end _ i n l) ∙ s.sought

-- ---- the comparisons that held with all earlier ones

module _ (held : ℕ → Bool) (n : ℕ) where
  before_stop : (e : ℕ) → e < held_of held n → all_held held e ≡ true
  unfolding all_held
  before_stop e l = let r = first_found (λ i. not (held i)) 0 n (omega arith) in ap not (some_no _ (suc e) (λ i m. r.none i (omega arith) (omega arith)))

  from_stop : (e : ℕ) → held_of held n ≤ e → e < n → all_held held e ≡ false
  unfolding all_held
  from_stop e h l = let r = first_found (λ i. not (held i)) 0 n (omega arith) in ap not (some_yes (λ i. not (held i)) (suc e) (held_of held n) (omega arith) (r.hit (omega arith)))

  -- are as many as hold before the first that fails, where the code stops
  pub held-count : count (all_held held) n ≡ held_of held n
  held-count =
      let r = first_found (λ i. not (held i)) 0 n (omega arith) in
      count_end_lem (all_held held) (held_of held n) n r.upto from_stop ∙ count_all (all_held held) (held_of held n) before_stop

  -- and are the first
  pub held_first : (e : ℕ) → e < n → all_held held e ≡ ltb e (count (all_held held) n)
  held_first e l =
      elim (dec_lt e (held_of held n)) [
        | yes k ↦ before_stop e k ∙ sym (lt-ltb e (count (all_held held) n) (omega (arith, held-count)))
        | no k ↦ from_stop e (omega arith) l ∙ sym (le-ltb e (count (all_held held) n) (omega (arith, held-count)))
      ]
