-- The walk's laws for the instructions on the register state. Assumes nothing.
use Rattle.std.proofs.Common.{◌≡◌, ℕ, zero, suc, ◌+◌, ◌-◌, ◌*◌, ◌/◌, ◌%◌, ◌^◌, ◌<◌, ◌≤◌, min, max, Bool, true, false, not, ◌&&◌, eqb, ltb, List, length, set, sym, refl, ap, ◌∙◌, ap₂, add-zero, mod-eq_of_lt, arith, length-set, get_or-set_other, get_or-set_same, set-set, le-ltb, lt-ltb, eq-eqb, ne_eqb}
use native.Mathlib.Decide.{dec_lt}
use lib.Seq.{set_comm, set-get_or}
use Rattle.bits.specs.declared.Size.{Size}
use Rattle.bits.specs.Bits.{element_bit}
use Rattle.bits.specs.Choice.{pick}
use Rattle.bits.specs.Search.{count, some, after_last, first_from}
use Rattle.bits.specs.Size.{shift}
use Rattle.bits.proofs.Searches.{count_cong, some_yes, some_no, last_is, last_cong, first_is, first_cong}
use Rattle.predicates.specs.declared.Flags.{Flags}
use Rattle.predicates.specs.declared.Predicate.{Predicate}
use Rattle.predicates.specs.PredTest.{pred_test}
use Rattle.predicates.specs.Predicate.{all_false, active, between, span_of, spread, pack, elements}
use Rattle.predicates.proofs.ElementBits.{active-pack, in_bits}
use Rattle.predicates.proofs.Live.{elements_fit}
use Rattle.predicates.proofs.Spans.{between_yes, between-after, active-span, count-span, first_in_span, first-past-span, last_of_one}
use Rattle.predicates.proofs.Words.{pack-bit, pack_cong}
use Rattle.registers.specs.declared.State.{State}
use Rattle.tally.specs.declared.Counts.{Counts}
use Rattle.tally.specs.Counts.{counts_of, no_counts, count_at}
use Rattle.tally.proofs.Same.{count_at_lem}
use Rattle.registers.specs.State.{read_x, read_p, read_counts, with_x, with_p, with_flags}
use Rattle.registers.proofs.Legality.{counts_stay}
use Rattle.registers.proofs.Registers.{Sized}
use Rattle.scalars.specs.declared.Condition.TheVariants.{Less}
use Rattle.words.specs.declared.Instruction.TheVariants.{While, IncDec, Pnext, Pfalse}
use Rattle.words.specs.declared.Target.TheVariants.{One}
use Rattle.machine.specs.Execute.{execute_of}
use Rattle.instructions.specs.Searches.{next_element, next_result}
use Rattle.instructions.specs.Whiles.{span_flags}
use Rattle.instructions.proofs.WhileLaws.{span_flags_lem}
use Rattle.walk.specs.declared.Phase.TheVariants as P
use Rattle.walk.specs.Demand.{final_state}
use Rattle.walk.specs.Plain.{Walk, run, begin}
use Rattle.walk.specs.Walk.{instructions_of, position_of, position_at, distance}
use Rattle.walk.proofs.Accepted.{Within}
use Rattle.walk.proofs.Closed.{Laws, lanes_at, place-below}
use Rattle.walk.proofs.Executed.{executes_pfalse, executes_whilelo, executes_pnext, executes_incp}
use Rattle.walk.proofs.Runs.{later_run}

-- ---- the state with Xn, Pd, Pk and the flags anew

abbrev pub base : State → ℕ → ℕ → ℕ → ℕ → Predicate → Predicate → Flags → State
base s n d k x pd pk f = with_flags (with_p (with_p (with_x s n x) d pd) k pk) f

module _ (size : Size) (n m d k : ℕ) (s : State) (l : List ℕ) (g : Within size n m d k s l) (x : ℕ) (pd pk : Predicate) (f : Flags) where
  here : State
  here = base s n d k x pd pk f

  pub sized : Sized (base s n d k x pd pk f)
  unfolding with_x with_p with_flags
  sized = record { xs = length-set s.x n x ∙ g.xs; ps = length-set (set s.p d pd) k pk ∙ length-set s.p d pd ∙ g.ps; cs = length-set (set s.counts d _) k _ ∙ length-set s.counts d _ ∙ g.cs }

  pub get_xn : read_x (base s n d k x pd pk f) n ≡ x
  unfolding with_x with_p with_flags
  get_xn = get_or-set_same s.x n x 0 (omega (arith, g.xs, g.n_below))

  pub get_xm : read_x (base s n d k x pd pk f) m ≡ read_x s m
  unfolding with_x with_p with_flags
  get_xm = get_or-set_other s.x n m x 0 g.other_x

  pub get_pk : read_p (base s n d k x pd pk f) k ≡ pk
  unfolding with_x with_p with_flags
  get_pk = get_or-set_same (set s.p d pd) k pk all_false (omega (arith, length-set s.p d pd, g.ps, g.k_below))

  pub get-pd : read_p (base s n d k x pd pk f) d ≡ pd
  unfolding with_x with_p with_flags
  get-pd = get_or-set_other (set s.p d pd) k d pk all_false g.other_p ∙ get_or-set_same s.p d pd all_false (omega (arith, g.ps, g.d-below))

  pub get_counts : read_counts (base s n d k x pd pk f) d ≡ counts_of s.vl pd
  unfolding with_x with_p with_flags
  get_counts = get_or-set_other (set s.counts d (counts_of s.vl pd)) k d _ no_counts g.other_p ∙ get_or-set_same s.counts d (counts_of s.vl pd) no_counts (omega (arith, g.cs, g.d-below))

  pub put_pk : (q : Predicate) (h : Flags) → with_p (with_flags (base s n d k x pd pk f) h) k q ≡ base s n d k x pd q h
  unfolding with_x with_p with_flags
  put_pk q h = rw (set-set (set s.p d pd) k pk q, set-set (set s.counts d (counts_of s.vl pd)) k (counts_of s.vl pk) (counts_of s.vl q))

  pub put_pd : (q : Predicate) (h : Flags) → with_p (with_flags (base s n d k x pd pk f) h) d q ≡ base s n d k x q pk h
  unfolding with_x with_p with_flags
  put_pd q h =
      rw (
        set_comm (set s.p d pd) k d pk q (λ e. g.other_p (sym e)),
        set-set s.p d pd q,
        set_comm (set s.counts d (counts_of s.vl pd)) k d (counts_of s.vl pk) (counts_of s.vl q) (λ e. g.other_p (sym e)),
        set-set s.counts d (counts_of s.vl pd) (counts_of s.vl q),
      )

  pub put_xn : (v : ℕ) → with_x (base s n d k x pd pk f) n v ≡ base s n d k v pd pk f
  unfolding with_x with_p with_flags
  put_xn v = rw (set-set s.x n x v)

-- ---- predicates of a round

-- the predicate with element j alone
abbrev pub single : Size → ℕ → Predicate
single size j = pack (spread (shift size) (λ e. eqb e j))

-- what PNEXT makes after j elements of w
abbrev pub cursor : Size → ℕ → ℕ → Predicate
cursor size j w = pick (ltb j w) (single size j) all_false

cursor_on : (size : Size) (j w : ℕ) → j < w → cursor size j w ≡ single size j
cursor_on size j w h = ap (λ (b : Bool). pick b (single size j) all_false) (lt-ltb j w h)

cursor_off : (size : Size) (j w : ℕ) → w ≤ j → cursor size j w ≡ all_false
cursor_off size j w h = ap (λ (b : Bool). pick b (single size j) all_false) (le-ltb j w h)

and-false : (b : Bool) → (b && false) ≡ false
and-false true = refl
and-false false = refl

module _ (vl : ℕ) (size : Size) where
  abbrev E : ℕ
  E = elements vl size

  bit_below : (e : ℕ) → e < E → e * 2 ^ shift size < 256
  bit_below e h = in_bits (shift size) E e h (elements_fit vl size)

  none-active : (e : ℕ) → e < E → active (shift size) all_false e ≡ false
  unfolding active
  none-active e h = pack-bit (λ b. false) (e * 2 ^ shift size) (bit_below e h)

  single_active : (j e : ℕ) → e < E → active (shift size) (single size j) e ≡ eqb e j
  single_active j e h = active-pack (shift size) (λ i. eqb i j) e (bit_below e h)

  lanes_active : (w e : ℕ) → e < E → active (shift size) (span_of (shift size) 0 w) e ≡ between 0 w e
  lanes_active w e h = active-span (shift size) 0 w e (bit_below e h)

  last_none : after_last (active (shift size) all_false) E ≡ 0
  last_none =
      sym (last_is (active (shift size) all_false) E 0 record {
        upto = omega arith;
        none = λ e _ h. none-active e h;
        hit = λ e h. absurd (omega (arith, h));
      })

  pub last_single : (j : ℕ) → j < E → after_last (active (shift size) (single size j)) E ≡ suc j
  last_single j h = last_cong (active (shift size) (single size j)) (λ i. eqb i j) E (single_active j) ∙ last_of_one j E h

  pub first_single : (j : ℕ) → j < E → first_from (active (shift size) (single size j)) 0 E ≡ j
  first_single j h =
      sym (first_is (active (shift size) (single size j)) 0 E j record {
        from = omega arith;
        upto = omega arith;
        none = λ e _ q. single_active j e (omega arith) ∙ ne_eqb e j (λ z. omega arith);
        hit = λ _. single_active j j h ∙ eq-eqb j j refl;
      })

  lanes_count : (w : ℕ) → w ≤ E → count (active (shift size) (span_of (shift size) 0 w)) E ≡ w
  lanes_count w h =
      let c : min w E - 0 ≡ w = omega arith in
      count_cong (active (shift size) (span_of (shift size) 0 w)) (between 0 w) E (lanes_active w) ∙ count-span 0 w E ∙ c

  -- PNEXT after j elements of w
  next_is : (w j : ℕ) (dn : Predicate) → w ≤ E → j ≤ w → after_last (active (shift size) dn) E ≡ j → cursor size j w ≡ next_result size (span_of (shift size) 0 w) dn vl
  next_is w j dn h k e =
      let mask = active (shift size) (span_of (shift size) 0 w) in
      let sought : next_element size (span_of (shift size) 0 w) dn vl ≡ first_from (between 0 w) j E =
      ap (λ (i : ℕ). first_from mask i E) e ∙ first_cong mask (between 0 w) j E (omega arith) (λ i _ q. lanes_active w i q) in
      let found : (i : ℕ) → next_element size (span_of (shift size) 0 w) dn vl ≡ i → next_result size (span_of (shift size) 0 w) dn vl ≡ pick (ltb i E) (single size i) all_false =
      λ i q. ap (λ (v : ℕ). pick (ltb v E) (single size v) all_false) q in
      elim (dec_lt j w) [
        | yes q ↦ cursor_on size j w q ∙ sym (found j (sought ∙ first_in_span 0 w j E (omega arith) q (omega arith)) ∙ cursor_on size j E (omega arith))
        | no q ↦ cursor_off size j w (omega arith) ∙ sym (found E (sought ∙ first-past-span 0 w j E (omega arith) (omega arith)) ∙ cursor_off size E E (omega arith))
      ]

  found_z : (w j : ℕ) → w ≤ E → j < w → (pred_test (active (shift size) (span_of (shift size) 0 w)) (active (shift size) (cursor size j w)) E).z ≡ false
  unfolding pred_test
  found_z w j h q =
      ap (λ (p : Predicate). not (some (λ e. active (shift size) (span_of (shift size) 0 w) e && active (shift size) p e) E)) (cursor_on size j w q)
      ∙ ap not (some_yes (λ e. active (shift size) (span_of (shift size) 0 w) e && active (shift size) (single size j) e) E j (omega arith)
      (ap₂ ◌&&◌ (lanes_active w j (omega arith) ∙ between_yes 0 w j (omega arith) q) (single_active j j (omega arith) ∙ eq-eqb j j refl)))

  none_z : (w : ℕ) → (pred_test (active (shift size) (span_of (shift size) 0 w)) (active (shift size) (cursor size w w)) E).z ≡ true
  unfolding pred_test
  none_z w =
      ap (λ (p : Predicate). not (some (λ e. active (shift size) (span_of (shift size) 0 w) e && active (shift size) p e) E)) (cursor_off size w w (omega arith))
      ∙ ap not (some_no (λ e. active (shift size) (span_of (shift size) 0 w) e && active (shift size) all_false e) E
      (λ e h. ap (λ (b : Bool). active (shift size) (span_of (shift size) 0 w) e && b) (none-active e h) ∙ and-false (active (shift size) (span_of (shift size) 0 w) e)))

-- no elements are no bits
span_none : (k : ℕ) → span_of k 0 0 ≡ all_false
unfolding spread
span_none k =
    pack_cong (spread k (between 0 0)) (λ b. false)
    (λ b _. ap (λ (t : Bool). element_bit k b && t) (between-after 0 0 (b / 2 ^ k) (omega arith)) ∙ and-false (element_bit k b))

-- ---- the laws

module _ (size : Size) (n m d k : ℕ) (s : State) where
  abbrev pub lanes_of : ℕ → ℕ
  lanes_of o = lanes_at (elements s.vl size) (distance n m s) o

  -- the state in the round after o positions, before its first PNEXT and after j of them
  abbrev pub lane_at : ℕ → ℕ → State
  lane_at o zero = base s n d k (read_x s n + o) (span_of (shift size) 0 (lanes_of o)) all_false (span_flags true (lanes_of o) (elements s.vl size))
  lane_at o (suc j) =
      base s n d k (read_x s n + o) (span_of (shift size) 0 (lanes_of o)) (cursor size j (lanes_of o))
      (pred_test (active (shift size) (span_of (shift size) 0 (lanes_of o))) (active (shift size) (cursor size j (lanes_of o))) (elements s.vl size))

  -- the state before that round's WHILELO
  abbrev pub Ready : ℕ → State → Type 0
  Ready o t = (q : Predicate) × (f : Flags) × (t ≡ base s n d k (read_x s n + o) q all_false f)

  module _ (l : List ℕ) (g : Within size n m d k s l) where
    pub plainly : Sized s
    plainly = record { xs = g.xs; ps = g.ps; cs = g.cs }

    lanes_le : (o : ℕ) → lanes_of o ≤ elements s.vl size
    lanes_le o = omega arith

    begins : Ready 0 (execute_of s (Pfalse k))
    unfolding with_x with_p with_flags
    begins = (read_p s d, s.flags, executes_pfalse s plainly size k ∙ rw (add-zero, set-get_or s.x n 0, set-get_or s.p d all_false, counts_stay s d g.ok g.d-below))

    -- where the state before the round has Xn, Pd and the flags x, q and f
    enters : (o : ℕ) (t : State) → o ≤ distance n m s → Ready o t → execute_of t (While Less true (One true d) size n m) ≡ lane_at o 0
    unfolding with_x with_p with_flags
    enters o t h (q, f, e) =
        let x = read_x s n + o in
        let b = base s n d k x q all_false f in
        ap (λ (u : State). execute_of u (While Less true (One true d) size n m)) e
        ∙ executes_whilelo b (sized size n m d k s l g x q all_false f) size n m d x (read_x s m) (lanes_of o) (get_xn size n m d k s l g x q all_false f)
        (get_xm size n m d k s l g x q all_false f) (omega (arith, g.start_fits, g.limit_fits)) g.limit_fits (omega arith)
        ∙ put_pd size n m d k s l g x q all_false f _ _

    next-from : (o j : ℕ) (pk : Predicate) (f : Flags) → j ≤ lanes_of o → after_last (active (shift size) pk) (elements s.vl size) ≡ j
        → execute_of (base s n d k (read_x s n + o) (span_of (shift size) 0 (lanes_of o)) pk f) (Pnext size d k) ≡ lane_at o (suc j)
    unfolding with_x with_p with_flags
    next-from o j pk f h e =
        let x = read_x s n + o in
        let pd = span_of (shift size) 0 (lanes_of o) in
        executes_pnext (base s n d k x pd pk f) (sized size n m d k s l g x pd pk f) size d k pd pk (cursor size j (lanes_of o)) (get-pd size n m d k s l g x pd pk f)
        (get_pk size n m d k s l g x pd pk f) (next_is s.vl size (lanes_of o) j pk (lanes_le o) h e)
        ∙ put_pk size n m d k s l g x pd pk f _ _

    next : (o j : ℕ) → o < distance n m s → j ≤ lanes_of o → execute_of (lane_at o j) (Pnext size d k) ≡ lane_at o (suc j)
    next o zero h q = next-from o 0 all_false _ q (last_none s.vl size)
    next o (suc j) h q =
        next-from o (suc j) (cursor size j (lanes_of o)) _ q
        (ap (λ (p : Predicate). after_last (active (shift size) p) (elements s.vl size)) (cursor_on size j (lanes_of o) q) ∙ last_single s.vl size j (omega (arith, lanes_le o)))

    lanes_zero : (o : ℕ) → (lane_at o 0).flags.z ≡ eqb (lanes_of o) 0
    unfolding with_flags
    lanes_zero o = ap (λ (f : Flags). f.z) (span_flags_lem true (lanes_of o) (elements s.vl size) (lanes_of o) (omega (arith, lanes_le o)))

    some_left : (o : ℕ) → o < distance n m s → (lane_at o 0).flags.z ≡ false
    some_left o h = lanes_zero o ∙ ne_eqb (lanes_of o) 0 (λ e. omega (arith, g.lanes))

    none_left : (lane_at (distance n m s) 0).flags.z ≡ true
    none_left = lanes_zero (distance n m s) ∙ eq-eqb (lanes_of (distance n m s)) 0 (omega arith)

    hit : (o j : ℕ) → o < distance n m s → j < lanes_of o → (lane_at o (suc j)).flags.z ≡ false
    unfolding with_flags
    hit o j h q = found_z s.vl size (lanes_of o) j (lanes_le o) q

    miss : (o : ℕ) → o < distance n m s → (lane_at o (suc (lanes_of o))).flags.z ≡ true
    unfolding with_flags
    miss o h = none_z s.vl size (lanes_of o)

    place : (o j : ℕ) → o < distance n m s → j < lanes_of o → position_of size n k (lane_at o (suc j)) ≡ read_x s n + (o + j)
    unfolding position_at with_x with_p with_flags
    place o j h q =
        let x = read_x s n + o in
        let pd = span_of (shift size) 0 (lanes_of o) in
        let pk = cursor size j (lanes_of o) in
        let f = pred_test (active (shift size) pd) (active (shift size) pk) (elements s.vl size) in
        let first : first_from (active (shift size) (read_p (base s n d k x pd pk f) k)) 0 (elements s.vl size) ≡ j =
        ap (λ (p : Predicate). first_from (active (shift size) p) 0 (elements s.vl size)) (get_pk size n m d k s l g x pd pk f ∙ cursor_on size j (lanes_of o) q)
        ∙ first_single s.vl size j (omega (arith, lanes_le o)) in
        let same : x + j ≡ read_x s n + (o + j) = omega arith in
        ap₂ (λ (a b : ℕ). (a + b) % 2 ^ 64) (get_xn size n m d k s l g x pd pk f) first ∙ ap (λ (v : ℕ). v % 2 ^ 64) same ∙ mod-eq_of_lt (omega (arith, g.limit_fits))

    adds : (o : ℕ) → o < distance n m s → Ready (o + lanes_of o) (execute_of (lane_at o (suc (lanes_of o))) (IncDec false size d n))
    unfolding with_x with_p with_flags
    adds o h =
        let x = read_x s n + o in
        let w = lanes_of o in
        let pd = span_of (shift size) 0 w in
        let pk = cursor size w w in
        let f = pred_test (active (shift size) pd) (active (shift size) pk) (elements s.vl size) in
        let b = base s n d k x pd pk f in
        let same : x + w ≡ read_x s n + (o + w) = omega arith in
        let sum : (read_x b n + count_at size (read_counts b d)) % 2 ^ 64 ≡ read_x s n + (o + w) =
        ap₂ (λ (a : ℕ) (c : Counts). (a + count_at size c) % 2 ^ 64) (get_xn size n m d k s l g x pd pk f) (get_counts size n m d k s l g x pd pk f)
        ∙ ap (λ (c : ℕ). (x + c) % 2 ^ 64) (count_at_lem s.vl size pd ∙ lanes_count s.vl size w (lanes_le o)) ∙ ap (λ (v : ℕ). v % 2 ^ 64) same ∙ mod-eq_of_lt (omega (arith, g.limit_fits)) in (
          pd,
          f,
          executes_incp b (sized size n m d k s l g x pd pk f) size n d (read_x s n + (o + w)) sum ∙ put_xn size n m d k s l g x pd pk f (read_x s n + (o + w))
              ∙ ap (λ (p : Predicate). base s n d k (read_x s n + (o + w)) pd p f) (cursor_off size w w (omega arith)),
        )

    pub laws : Laws (instructions_of size n m d k) s (read_x s n) (distance n m s) (elements s.vl size) lane_at Ready
    laws = record { begins = begins; enters = enters; some = some_left; none = none_left; next = next; hit = hit; miss = miss; place = place; adds = adds }

    -- the finished walk's state
    pub final : lane_at (distance n m s) 0 ≡ final_state n m d k s
    final =
        let w = lanes_of (distance n m s) in
        let none : w ≡ 0 = omega arith in
        let top : read_x s n + distance n m s ≡ max (read_x s n) (read_x s m) = omega arith in
        let flags : span_flags true w (elements s.vl size) ≡ record { n = false; z = true; c = true; v = false } = span_flags_lem true w (elements s.vl size) 0 (omega arith) in
        ap₂ (λ (x : ℕ) (f : Flags). base s n d k x (span_of (shift size) 0 w) all_false f) top flags
        ∙ ap (λ (p : Predicate). base s n d k (max (read_x s n) (read_x s m)) p all_false (record { n = false; z = true; c = true; v = false }))
        (ap (λ (c : ℕ). span_of (shift size) 0 c) none ∙ span_none (shift size))

    -- a PNEXT that finds an element has a place in the list
    pub room : (b : ℕ) (w : Walk State) → run (instructions_of size n m d k) b (begin s l) ≡ w → w.ended ≡ false → w.next ≡ P.Pnext
        → (execute_of w.state (Pnext size d k)).flags.z ≡ false → w.visited < length w.list
    room b w r q x z =
        let M = instructions_of size n m d k in
        let kept : length w.list ≡ length l = ap (λ (v : Walk State). length v.list) (sym r) ∙ (later_run M b (begin s l)).as_long in
        let used : (run M b (begin s l)).visited < distance n m s =
        place-below M s l (read_x s n) (distance n m s) (elements s.vl size) lane_at Ready laws g.lanes b (ap (λ (v : Walk State). v.ended) r ∙ q)
        (ap (λ (v : Walk State). v.next) r ∙ x) (ap (λ (v : Walk State). (execute_of v.state (Pnext size d k)).flags.z) r ∙ z) in
        let same : (run M b (begin s l)).visited ≡ w.visited = ap (λ (v : Walk State). v.visited) r in
        omega (arith, g.room)
