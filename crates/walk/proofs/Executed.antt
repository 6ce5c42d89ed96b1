-- The walk's four instructions, each as what it writes. Assumes nothing.
use Rattle.std.proofs.Common.{◌≡◌, ℕ, zero, suc, ◌+◌, ◌-◌, ◌%◌, ◌^◌, ◌<◌, ◌≤◌, min, Bool, true, false, not, ltb, length, sym, ap, ◌∙◌, ap₂, add-zero, mod-eq_of_lt, arith, length-set, w64, le-ltb, lt-ltb}
use Rattle.bits.specs.declared.Size.{Size}
use Rattle.bits.specs.Search.{count}
use Rattle.bits.specs.Size.{shift}
use Rattle.bits.proofs.Searches.{first_is}
use Rattle.predicates.specs.declared.Flags.{Flags}
use Rattle.predicates.specs.declared.Predicate.{Predicate}
use Rattle.predicates.specs.PredTest.{every, pred_test}
use Rattle.predicates.specs.Predicate.{all_false, active, between, span_of, spread, pack, elements}
use Rattle.registers.specs.declared.State.{State}
use Rattle.tally.specs.Counts.{count_at}
use Rattle.registers.specs.State.{read_x, read_p, read_counts, with_x, with_p, with_flags}
use Rattle.registers.proofs.Registers.{Sized, with_x_out, with_p_out}
use Rattle.scalars.specs.declared.Condition.TheVariants.{Less}
use Rattle.words.specs.declared.Instruction.TheVariants.{While, IncDec, Pnext, Pfalse}
use Rattle.words.specs.declared.Target.TheVariants.{One}
use Rattle.machine.specs.Execute.{apply, execute_of}
use Rattle.instructions.specs.declared.operands.Registers.{Registers}
use Rattle.instructions.specs.Counts.{inc_dec_of}
use Rattle.instructions.specs.Effect.{gives_x, gives_p, gives_pf}
use Rattle.instructions.specs.Instructions.{compute_of}
use Rattle.instructions.specs.Operands.{none}
use Rattle.instructions.specs.Searches.{next_result, pnext_of}
use Rattle.instructions.specs.Whiles.{while_element, while_one_of, span_flags}
use Rattle.scalars.specs.Value.{low_of}
use Rattle.scalars.specs.While.{operand_at, comparison, all_held}
use Rattle.scalars.proofs.Comparisons.{held-count}
use Rattle.instructions.proofs.WhileLaws.{while_elements}

-- ---- effects written

-- registers that are written; what is read does not matter
abbrev writing : ℕ → ℕ → ℕ → ℕ → ℕ → ℕ → ℕ → Bool → Registers
writing a b g p q rd pd sets = record { rn = a; rm = b; pg = g; pn = p; pm = q; rd = rd; pd = pd; pd2 = none; flags = sets }

module _ (s : State) (z : Sized s) (a b g p q : ℕ) where
  no_p : (t : State) → length t.p ≡ 17 → length t.counts ≡ 16 → with_p t none all_false ≡ t
  no_p t e h = sym (with_p_out t none all_false (omega (arith, e)) (omega (arith, h)))

  writes_x : (r v : ℕ) → apply s (writing a b g p q r none false) (gives_x v) ≡ with_x s r v
  unfolding apply with_x
  writes_x r v = ap (λ (u : State). with_p u none all_false) (no_p (with_x s r v) z.ps z.cs) ∙ no_p (with_x s r v) z.ps z.cs

  no_x : (f : Flags) → with_x (with_flags s f) none 0 ≡ with_flags s f
  unfolding with_flags
  no_x f = sym (with_x_out (with_flags s f) none 0 (omega (arith, z.xs)))

  writes_p : (r : ℕ) (o : Predicate) → apply s (writing a b g p q none r false) (gives_p o) ≡ with_p s r o
  unfolding apply with_p
  writes_p r o =
      ap (λ (u : State). with_p (with_p u r o) none all_false) (sym (with_x_out s none 0 (omega (arith, z.xs))))
      ∙ no_p (with_p s r o) (length-set s.p r o ∙ z.ps) (length-set s.counts r _ ∙ z.cs)

  writes_pf : (r : ℕ) (o : Predicate) (f : Flags) → apply s (writing a b g p q none r true) (gives_pf o f) ≡ with_p (with_flags s f) r o
  unfolding apply with_p with_flags
  writes_pf r o f =
      ap (λ (u : State). with_p (with_p u r o) none all_false) (no_x f)
      ∙ no_p (with_p (with_flags s f) r o) (length-set s.p r o ∙ z.ps) (length-set s.counts r _ ∙ z.cs)

-- ---- WHILELO's comparisons, where nothing wraps

module _ (a b : ℕ) (fits : b < 2 ^ 64) where
  operand_is : (e : ℕ) → e ≤ b - a → operand_at w64 true a e ≡ a + e
  unfolding operand_at
  operand_is zero h = sym (add-zero a)
  operand_is (suc e) h =
      let same : a + e + 1 ≡ a + suc e = omega arith in
      ap (λ (x : ℕ). (x + 1) % 2 ^ 64) (operand_is e (omega arith)) ∙ ap (λ (x : ℕ). x % 2 ^ 64) same ∙ mod-eq_of_lt (omega arith)

  compared : (e : ℕ) → e ≤ b - a → comparison w64 true Less a b e ≡ ltb (a + e) b
  unfolding comparison
  compared e h = ap (λ (x : ℕ). ltb x b) (operand_is e h)

  -- they hold up to the limit
  pub held_is : (n : ℕ) → count (all_held (comparison w64 true Less a b)) n ≡ min n (b - a)
  held_is n =
      held-count (comparison w64 true Less a b) n ∙ sym (first_is (λ e. not (comparison w64 true Less a b e)) 0 n (min n (b - a)) record {
        from = omega arith;
        upto = omega arith;
        none = λ e _ h. ap not (compared e (omega arith) ∙ lt-ltb (a + e) b (omega arith));
        hit = λ h. ap not (compared (min n (b - a)) (omega arith) ∙ le-ltb (a + min n (b - a)) b (omega arith));
      })

-- ---- the four instructions

module _ (s : State) (z : Sized s) (size : Size) where
  pub executes_pfalse : (k : ℕ) → execute_of s (Pfalse k) ≡ with_p s k all_false
  unfolding execute_of compute_of
  executes_pfalse k = writes_p s z none none none none none k all_false

  pub executes_held : (n m d c : ℕ) → c ≡ count (all_held (comparison w64 true Less (low_of w64 (read_x s n)) (low_of w64 (read_x s m)))) (elements s.vl size)
      → execute_of s (While Less true (One true d) size n m) ≡ with_p (with_flags s (span_flags true c (elements s.vl size))) d (span_of (shift size) 0 c)
  unfolding execute_of compute_of while_one_of span_flags
  executes_held n m d c is =
      let E = elements s.vl size in
      let held = comparison w64 true Less (low_of w64 (read_x s n)) (low_of w64 (read_x s m)) in
      let q : while_element true held E ≡ between 0 c = while_elements held E c is true in
      writes_pf s z n m none none none d _ _
      ∙ ap₂ (λ (p : Predicate) (f : Flags). with_p (with_flags s f) d p) (ap (λ (x : ℕ → Bool). pack (spread (shift size) x)) q)
      (ap (λ (x : ℕ → Bool). pred_test every x E) q)

  pub executes_whilelo : (n m d a b c : ℕ) → read_x s n ≡ a → read_x s m ≡ b → a < 2 ^ 64 → b < 2 ^ 64 → c ≡ min (elements s.vl size) (b - a)
      → execute_of s (While Less true (One true d) size n m) ≡ with_p (with_flags s (span_flags true c (elements s.vl size))) d (span_of (shift size) 0 c)
  executes_whilelo n m d a b c ea eb ha hb ec =
      let low : (x y : ℕ) → x ≡ y → y < 2 ^ 64 → x % 2 ^ 64 ≡ y = λ x y e h. ap (λ (v : ℕ). v % 2 ^ 64) e ∙ mod-eq_of_lt h in
      executes_held n m d c
      (ec ∙ sym (held_is a b hb (elements s.vl size))
      ∙ ap₂ (λ (x y : ℕ). count (all_held (comparison w64 true Less x y)) (elements s.vl size)) (sym (low _ a ea ha)) (sym (low _ b eb hb)))

  pub executes_pnext : (d k : ℕ) (v dn q : Predicate) → read_p s d ≡ v → read_p s k ≡ dn → q ≡ next_result size v dn s.vl
      → execute_of s (Pnext size d k) ≡ with_p (with_flags s (pred_test (active (shift size) v) (active (shift size) q) (elements s.vl size))) k q
  unfolding execute_of compute_of pnext_of
  executes_pnext d k v dn q ev en eq =
      writes_pf s z none none d k none k _ _
      ∙ ap₂ (λ (x y : Predicate). with_p (with_flags s (pred_test (active (shift size) x) (active (shift size) (next_result size x y s.vl)) (elements s.vl size))) k (next_result size x y s.vl)) ev en
      ∙ ap (λ (x : Predicate). with_p (with_flags s (pred_test (active (shift size) v) (active (shift size) x) (elements s.vl size))) k x) (sym eq)

  pub executes_incp : (n d x : ℕ) → (read_x s n + count_at size (read_counts s d)) % 2 ^ 64 ≡ x
      → execute_of s (IncDec false size d n) ≡ with_x s n x
  unfolding execute_of compute_of inc_dec_of
  executes_incp n d x e = writes_x s z n none none none d n _ ∙ ap (with_x s n) e
