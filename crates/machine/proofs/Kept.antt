-- A legal state stays legal. Assumes nothing.
use mathlib.Core.Bool.{Bool, true, false, ◌&&◌, ◌||◌}
use mathlib.Core.Path.{◌≡◌, refl, ap, ap₂, ◌∙◌}
use Prim.Native.Nat.{ℕ, ◌+◌, ◌-◌, ◌*◌, ◌^◌, ◌≤◌, ◌<◌}
use native.Mathlib.Decide.{dec_lt}
use native.Mathlib.Nat.{mul_assoc, mul-le-mul_right, lt_of_lt_of_le, mul-one}
use native.Mathlib.Omega.{arith}
use lib.Dec.{ltb}
use lib.ListN.{get_or-eq_default}
use lib.Pow.{pow_mono}
use mir.Syntax.{w64}
use borrow.Author.Tests.{le-ltb, ne_eqb, ltb-true}
use Rattle.bits.specs.declared.Size.{Size}
use Rattle.bits.specs.declared.Size.TheVariants as Sz
use Rattle.bits.specs.Choice.{pick}
use Rattle.bits.specs.Search.{count, first_from}
use Rattle.bits.specs.Size.{shift}
use Rattle.bits.proofs.Searches.{digit_lt}
use Rattle.predicates.specs.declared.Predicate.{Predicate}
use Rattle.predicates.specs.Predicate.{pack, all_false, active, spread, elements, predicate_length, has_bit_from}
use Rattle.predicates.proofs.Lengths.{length_quads}
use Rattle.predicates.proofs.Live.{elements_fit, elements-within}
use Rattle.predicates.proofs.Spans.{spread-within, none_within, within_none, word-within, false-within}
use Rattle.registers.specs.declared.State.{State}
use Rattle.registers.specs.Legal.{legal}
use Rattle.registers.specs.State.{ffr, read_x, read_p, with_x, with_p, with_flags}
use Rattle.registers.proofs.Legality.{legal_has, legal_sized, kept_bits, quads, with_x-legal, with_p-legal, with_flags-legal}
use Rattle.scalars.specs.declared.Condition.{Condition}
use Rattle.words.specs.declared.Instruction.{Instruction}
use Rattle.words.specs.declared.Instruction.TheVariants.{While, Saturating, IncDec, Cntp, CntpCounter, Pnext, Pfirst, Ptest, Pfalse, Logic, Setffr, Wrffr, Rdffr, RdffrPg, RdffrsPg}
use Rattle.words.specs.declared.Operation.{Operation}
use Rattle.words.specs.declared.Target.{Target}
use Rattle.words.specs.declared.Target.TheVariants.{One, Pair, Counter}
use Rattle.instructions.specs.declared.operands.Registers.{Registers}
use Rattle.instructions.specs.Effect.{Effect}
use Rattle.instructions.specs.Counter.{group_of, stored, counter_of, while_counter_of, cntp_counter_of}
use Rattle.instructions.specs.Counts.{inc_dec_of, saturating_of, cntp_of}
use Rattle.instructions.specs.Searches.{next_element, next_result, pnext_of, first_result, pfirst_of, ptest_of}
use Rattle.instructions.specs.Logic.{logic_result, logic_of}
use Rattle.instructions.specs.Ffr.{rdffrs_pg_of}
use Rattle.instructions.specs.Instructions.{while_of, compute_of}
use Rattle.instructions.specs.Operands.{registers_of}
use Rattle.instructions.specs.Whiles.{while_element, low_half, high_half, while_one_of, while_pair_of}
use Rattle.scalars.specs.While.{upward, comparison, all_held}
use Rattle.instructions.proofs.CounterLaws.{group_most, counter_cases}
use Rattle.instructions.proofs.WhileLaws.{held-le}
use Rattle.instructions.proofs.LogicLaws.{logic-within}
use Rattle.instructions.proofs.FfrLaws.{set-within, set_alone, mask_within}
use Rattle.machine.specs.Execute.{values_of, apply, execute_of}
use Rattle.machine.proofs.Frame.{beside_flags}

-- the predicates of an effect have no bit at or above PL
pub record Within (vl : ℕ) (e : Effect) : Type 0 where
  pub pd : has_bit_from (predicate_length vl) e.pd ≡ false
  pub pd2 : has_bit_from (predicate_length vl) e.pd2 ≡ false

-- ---- predicates made of at most E elements

elements_in : (vl : ℕ) (size : Size) (q : ℕ → Bool) → ((e : ℕ) → elements vl size ≤ e → q e ≡ false) → has_bit_from (predicate_length vl) (pack (spread (shift size) q)) ≡ false
elements_in vl size q past = spread-within (shift size) (elements vl size) (predicate_length vl) q (elements-within vl size) past

while_past : (up : Bool) (held : ℕ → Bool) (n e : ℕ) → n ≤ e → while_element up held n e ≡ false
unfolding while_element
while_past up held n e h = ap (λ (t : Bool). t && all_held held (pick up e (n - 1 - e))) (le-ltb e n h)

low-past : (n : ℕ) (q : ℕ → Bool) (e : ℕ) → n ≤ e → low_half n q e ≡ false
low-past n q e h = ap (λ (t : Bool). t && q e) (le-ltb e n h)

high_past : (n : ℕ) (q : ℕ → Bool) (e : ℕ) → n ≤ e → high_half n q e ≡ false
high_past n q e h = ap (λ (t : Bool). t && q (n + e)) (le-ltb e n h)

-- ---- counters: below 2 ^ 16, and PL is at least 16

stored-lt : (inverted : Bool) (n e k : ℕ) → n < 4 * e → e * 2 ^ k ≤ 256 → stored inverted n k < 2 ^ 16
stored-lt inverted n e k h f =
    let wide : (n * 2 + 1) * 2 ^ k ≤ 8 * e * 2 ^ k = mul-le-mul_right (2 ^ k) (omega arith) in
    let same : 8 * e * 2 ^ k ≡ 8 * (e * 2 ^ k) = mul_assoc 8 e (2 ^ k) in
    omega (arith, digit_lt inverted)

counter-lt : (up : Bool) (g n e k : ℕ) → n ≤ g → g ≤ 4 * e → e * 2 ^ k ≤ 256 → counter_of up g n k < 2 ^ 16
counter-lt up g n e k h l f = counter_cases (λ w. w < 2 ^ 16) up g n k h (omega arith) (λ inverted m small. stored-lt inverted m e k (omega arith) f)

-- ---- each instruction

module _ (s : State) (ok : legal s ≡ true) where
  pl_large : 16 ≤ predicate_length s.vl
  pl_large =
      let (q, e, low, high) = quads s.vl (legal_has s ok).len in
      omega (arith, ap predicate_length e ∙ length_quads q high)

  read-within : (r : ℕ) → has_bit_from (predicate_length s.vl) (read_p s r) ≡ false
  read-within r =
      elim (dec_lt r 17) [
        | yes l ↦ kept_bits s r ok l
        | no l ↦ ap (has_bit_from (predicate_length s.vl)) (get_or-eq_default s.p all_false (omega (arith, (legal_sized s ok).ps))) ∙ false-within (predicate_length s.vl)
      ]

  none : has_bit_from (predicate_length s.vl) all_false ≡ false
  none = false-within (predicate_length s.vl)

  while_within : (c : Condition) (u : Bool) (t : Target) (size : Size) (a b : ℕ) → Within s.vl (while_of c u t size a b s.vl)
  unfolding while_one_of while_pair_of while_counter_of
  while_within c u (One sf pd) size a b = record { pd = elements_in s.vl size _ (λ e h. while_past _ _ _ e h); pd2 = none }
  while_within c u (Pair pd) size a b =
      let n = elements s.vl size in
      let q = while_element (upward c) (comparison w64 u c a b) (2 * n) in
      record { pd = elements_in s.vl size _ (low-past n q); pd2 = elements_in s.vl size _ (high_past n q) }
  while_within c u (Counter four pnd) size a b =
      let n = elements s.vl size in
      let g = group_of four n in
      let count-lt = counter-lt (upward c) g (count (all_held (comparison w64 u c a b)) g) n (shift size) (held-le (comparison w64 u c a b) g) (group_most four n) (elements_fit s.vl size) in
      record { pd = word-within (predicate_length s.vl) _ (lt_of_lt_of_le count-lt (pow_mono {i = 16} {j = predicate_length s.vl} pl_large)); pd2 = none }

  next-within : (size : Size) (v dn : Predicate) → has_bit_from (predicate_length s.vl) (next_result size v dn s.vl) ≡ false
  next-within size v dn = go (ltb (next_element size v dn s.vl) (elements s.vl size)) refl
    where
      go : (t : Bool) → ltb (next_element size v dn s.vl) (elements s.vl size) ≡ t → has_bit_from (predicate_length s.vl) (next_result size v dn s.vl) ≡ false
      go true e = rw e (elements_in s.vl size _ (λ i h. ne_eqb i (next_element size v dn s.vl) (omega (arith, ltb-true (next_element size v dn s.vl) (elements s.vl size) e))))
      go false e = rw e none

  first-within : (g : Predicate) (r : ℕ) → has_bit_from (predicate_length s.vl) (first_result g (read_p s r) s.vl) ≡ false
  first-within g r = go (ltb (first_from (active 0 g) 0 (elements s.vl Sz.B)) (elements s.vl Sz.B)) refl
    where
      past_pl : (b : ℕ) → predicate_length s.vl ≤ b → ltb (first_from (active 0 g) 0 (elements s.vl Sz.B)) (elements s.vl Sz.B) ≡ true
          → b ≡ first_from (active 0 g) 0 (elements s.vl Sz.B) → ⊥
      past_pl b l t h = omega (arith, ltb-true (first_from (active 0 g) 0 (elements s.vl Sz.B)) (elements s.vl Sz.B) t, elements-within s.vl Sz.B, mul-one (elements s.vl Sz.B))

      go : (t : Bool) → ltb (first_from (active 0 g) 0 (elements s.vl Sz.B)) (elements s.vl Sz.B) ≡ t → has_bit_from (predicate_length s.vl) (first_result g (read_p s r) s.vl) ≡ false
      go true e = rw e (none_within (predicate_length s.vl) _ (λ b l m. ap₂ ◌||◌ (within_none (predicate_length s.vl) (read_p s r) (read-within r) b l m) (ne_eqb b (first_from (active 0 g) 0 (elements s.vl Sz.B)) (past_pl b l e))))
      go false e = rw e (read-within r)

  logic_in : (o : Operation) (sets : Bool) (pg n pm : ℕ) → Within s.vl (logic_of o sets (read_p s pg) (read_p s n) (read_p s pm) s.vl)
  unfolding logic_of
  logic_in o sets pg n pm = go sets
    where
      q : has_bit_from (predicate_length s.vl) (logic_result o (read_p s pg) (read_p s n) (read_p s pm)) ≡ false
      q = logic-within o (predicate_length s.vl) (read_p s pg) (read_p s n) (read_p s pm) (read-within pg) (read-within pm)

      go : (b : Bool) → Within s.vl (logic_of o b (read_p s pg) (read_p s n) (read_p s pm) s.vl)
      go true = record { pd = q; pd2 = none }
      go false = record { pd = q; pd2 = none }

  pub effect_within : (i : Instruction) → Within s.vl (compute_of i (values_of s (registers_of i)) s.vl)
  unfolding compute_of inc_dec_of saturating_of cntp_of cntp_counter_of pnext_of pfirst_of ptest_of rdffrs_pg_of
  effect_within (While c u t size rn rm) = while_within c u t size (read_x s rn) (read_x s rm)
  effect_within (Saturating d u sf size pm rdn) = record { pd = none; pd2 = none }
  effect_within (IncDec d size pm rdn) = record { pd = none; pd2 = none }
  effect_within (Cntp size pg pn rd) = record { pd = none; pd2 = none }
  effect_within (CntpCounter four size pnn rd) = record { pd = none; pd2 = none }
  effect_within (Pnext size pv pdn) = record { pd = next-within size (read_p s pv) (read_p s pdn); pd2 = none }
  effect_within (Pfirst pg pdn) = record { pd = first-within (read_p s pg) pdn; pd2 = none }
  effect_within (Ptest pg pn) = record { pd = none; pd2 = none }
  effect_within (Pfalse pd) = record { pd = none; pd2 = none }
  effect_within (Logic o sets pm pg pn pd) = logic_in o sets pg pn pm
  effect_within Setffr = record { pd = set-within s.vl; pd2 = set_alone s.vl }
  effect_within (Wrffr pn) = record { pd = read-within pn; pd2 = none }
  effect_within (Rdffr pd) = record { pd = read-within ffr; pd2 = none }
  effect_within (RdffrPg pg pd) = record { pd = mask_within (predicate_length s.vl) (read_p s pg) (read_p s ffr) (read-within pg); pd2 = none }
  effect_within (RdffrsPg pg pd) = record { pd = mask_within (predicate_length s.vl) (read_p s pg) (read_p s ffr) (read-within pg); pd2 = none }

-- ---- an effect within PL keeps legality

module _ (s : State) (r : Registers) (e : Effect) where
  abbrev flagged : State
  flagged = pick r.flags (with_flags s e.flags) s

  flagged_legal : legal flagged ≡ legal s
  flagged_legal = go r.flags
    where
      go : (b : Bool) → legal (pick b (with_flags s e.flags) s) ≡ legal s
      go true = with_flags-legal s e.flags
      go false = refl

  written-vl : (with_x flagged r.rd e.rd).vl ≡ s.vl
  unfolding with_x
  written-vl = (beside_flags s r.flags e.flags).vl

  written_p : (t : State) (n : ℕ) (q : Predicate) → (with_p t n q).vl ≡ t.vl
  unfolding with_p
  written_p t n q = refl

  pub apply-legal : legal s ≡ true → Within s.vl e → legal (apply s r e) ≡ true
  unfolding apply
  apply-legal h k =
      let t = with_x flagged r.rd e.rd in
      let first : legal (with_p t r.pd e.pd) ≡ true =
      with_p-legal t r.pd e.pd (ap (λ (v : ℕ). has_bit_from (predicate_length v) e.pd) written-vl ∙ k.pd) (with_x-legal flagged r.rd e.rd ∙ flagged_legal ∙ h) in
      with_p-legal (with_p t r.pd e.pd) r.pd2 e.pd2
      (ap (λ (v : ℕ). has_bit_from (predicate_length v) e.pd2) (written_p t r.pd e.pd ∙ written-vl) ∙ k.pd2) first

-- an accepted step leaves a legal state legal
pub execute-legal : (s : State) (i : Instruction) → legal s ≡ true → legal (execute_of s i) ≡ true
unfolding execute_of
execute-legal s i ok = apply-legal s (registers_of i) (compute_of i (values_of s (registers_of i)) s.vl) ok (effect_within s ok i)
