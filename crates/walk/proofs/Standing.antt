-- Where the plain walk stands under each budget, and what INCP has passed there. Assumes nothing but the laws of the four instructions.
use Rattle.std.proofs.Common.{◌≡◌, ℕ, zero, suc, ◌+◌, ◌-◌, ◌*◌, ◌<◌, ◌≤◌, true, false, List, ◌++◌, length, get_or, take, drop, sym, refl, ap, ◌∙◌, ap₂, le_of_lt, add-suc, mul-le-mul_right, suc-mul, zero-mul, add-one, arith, length-append, length-drop, length-take, get_or-drop, get_or-take, get_or-append-add, ext_get_or}
use native.Mathlib.Decide.{dec_lt}
use lib.ListN.{get_or-append}
use Rattle.bits.proofs.Searches.{never}
use Rattle.walk.specs.declared.Phase.{Phase}
use Rattle.walk.specs.declared.Phase.TheVariants.{Pfalse, Whilelo, Pnext, Incp}
use Rattle.walk.specs.Plain.{WalkInstructions, Walk, begin, turn, run, rounds, budget_for}
use Rattle.walk.specs.Resumed.{passed_after, count_after, Stopped}
use Rattle.walk.proofs.Closed.{Laws, lanes_at, rounds-lt, rounds-le, filled, filled_length, filled_past, filled_at}
use Rattle.walk.proofs.Closed as Closed
use Rattle.walk.proofs.Runs.{count-run, count_most}

-- filled up to k, and then its part from o on filled again: as if filled at once
pub filled_joined : (start : ℕ) (l : List ℕ) (o k j : ℕ) → o ≤ k → k ≤ o + j → o + j ≤ length l
    → take o (filled start l k) ++ filled (start + o) (drop o (filled start l k)) j ≡ filled start l (o + j)
filled_joined start l o k j ok kj room = ext_get_or 0 _ _ lengths at
  where
    f : List ℕ
    f = filled start l k

    head : length (take o f) ≡ o
    head = omega (arith, length-take o f, filled_length start l k)

    rest : length (drop o f) ≡ length l - o
    rest = omega (arith, length-drop o f, filled_length start l k)

    g : List ℕ
    g = filled (start + o) (drop o f) j

    lengths : length (take o f ++ g) ≡ length (filled start l (o + j))
    lengths = omega (arith, length-append (take o f) g, head, rest, filled_length (start + o) (drop o f) j, filled_length start l (o + j))

    before : (i : ℕ) → i < o → get_or (take o f ++ g) i 0 ≡ get_or (filled start l (o + j)) i 0
    before i h =
        get_or-append (take o f) g 0 i (omega (arith, head)) ∙ get_or-take o f i 0 h
        ∙ filled_at start l k i (omega arith) (omega arith) ∙ sym (filled_at start l (o + j) i (omega arith) room)

    from : (i : ℕ) → o ≤ i → get_or (take o f ++ g) i 0 ≡ get_or g (i - o) 0
    from i h = let split : i ≡ length (take o f) + (i - o) = omega (arith, head) in ap (λ n. get_or (take o f ++ g) n 0) split ∙ get_or-append-add (take o f) g (i - o) 0

    again : (i : ℕ) → o ≤ i → i < o + j → get_or (take o f ++ g) i 0 ≡ get_or (filled start l (o + j)) i 0
    again i h q =
        let same : start + o + (i - o) ≡ start + i = omega arith in
        from i h ∙ filled_at (start + o) (drop o f) j (i - o) (omega arith) (omega (arith, rest)) ∙ same ∙ sym (filled_at start l (o + j) i q room)

    past : (i : ℕ) → o + j ≤ i → get_or (take o f ++ g) i 0 ≡ get_or (filled start l (o + j)) i 0
    past i h =
        let same : o + (i - o) ≡ i = omega arith in
        from i (omega arith) ∙ filled_past (start + o) (drop o f) j (i - o) (omega arith) ∙ get_or-drop o f (i - o) 0 ∙ ap (λ n. get_or f n 0) same
        ∙ filled_past start l k i (omega arith) ∙ sym (filled_past start l (o + j) i h)

    at : (i : ℕ) → i < length (take o f ++ g) → get_or (take o f ++ g) i 0 ≡ get_or (filled start l (o + j)) i 0
    at i _ = elim (dec_lt i o) [ yes h ↦ before i h | no h ↦ elim (dec_lt i (o + j)) [ yes q ↦ again i (omega arith) q | no q ↦ past i (omega arith) ] ]

module _ {S : Type 0} (m : WalkInstructions S) (s : S) (l : List ℕ) (start d e : ℕ) (lane : ℕ → ℕ → S) (Ready : ℕ → S → Type 0)
    (L : Laws m s start d e lane Ready) (pos : 0 < e) where
  -- the walk before instruction p, in state t after k positions and c instructions
  abbrev pub at : Phase → S → ℕ → ℕ → Walk S
  at p t c k = record { state = t; list = filled start l k; count = c; visited = k; next = p; ended = false }

  -- the walk after its last WHILELO
  abbrev pub finished : Walk S
  finished = Closed.finished m s l start d e lane Ready L pos

  -- ---- where it stands under each budget

  -- in round r: PFALSE to come; WHILELO; PNEXT, the cursor on the lane before j; INCP; or it has ended
  pub data Stands (r : ℕ) (w : Walk S) : Type 0 where
    begins : r ≡ 0 → w ≡ begin s l → Stands r w
    enters : (t : S) → Ready (passed_after d e r) t → w ≡ at Whilelo t (count_after d e r) (passed_after d e r) → Stands r w
    visits : (j : ℕ) → r < rounds d e → j ≤ lanes_at e d (passed_after d e r)
        → w ≡ at Pnext (lane (passed_after d e r) j) (count_after d e r + 1 + j) (passed_after d e r + j) → Stands r w
    adds : r < rounds d e
        → w ≡ at Incp (lane (passed_after d e r) (suc (lanes_at e d (passed_after d e r)))) (count_after d e r + 1 + lanes_at e d (passed_after d e r) + 1) (passed_after d e r + lanes_at e d (passed_after d e r))
        → Stands r w
    ends : r ≡ rounds d e → w ≡ finished → Stands r w

  -- in some round
  abbrev pub Standing : Walk S → Type 0
  Standing w = (r : ℕ) × (r ≤ rounds d e) × Stands r w

  -- a round is left exactly if a position is
  some_left : (r : ℕ) → r < rounds d e → passed_after d e r < d
  some_left r h = omega (arith, rounds-lt d e r pos h)

  round_left : (r : ℕ) → passed_after d e r < d → r < rounds d e
  round_left r h = elim (dec_lt r (rounds d e)) [ yes k ↦ k | no k ↦ absurd (omega (arith, rounds-le d e pos, mul-le-mul_right {m = rounds d e} {n = r} e (omega arith))) ]

  none_yet : passed_after d e 0 ≡ 0
  none_yet = omega (arith, zero-mul e)

  next_passed : (r : ℕ) → r < rounds d e → passed_after d e (suc r) ≡ passed_after d e r + lanes_at e d (passed_after d e r)
  next_passed r h = omega (arith, suc-mul r e, rounds-lt d e r pos h)

  next-count : (r : ℕ) → r < rounds d e → count_after d e (suc r) ≡ count_after d e r + 1 + lanes_at e d (passed_after d e r) + 1 + 1
  next-count r h = omega (arith, next_passed r h)

  -- ---- one instruction

  after-pfalse : turn m (begin s l) ≡ at Whilelo (m.pfalse s) 1 0
  unfolding filled
  after-pfalse = refl

  -- WHILELO finds lanes, or none is left
  after_whilelo : (o c : ℕ) (t : S) → o < d → Ready o t → turn m (at Whilelo t c o) ≡ at Pnext (lane o 0) (c + 1) o
  after_whilelo o c t h r = rw (L.enters o t (omega arith) r, L.some o h)

  after_last_lem : (c : ℕ) (t : S) → Ready d t → c + 1 ≡ budget_for d e → turn m (at Whilelo t c d) ≡ finished
  after_last_lem c t r q = rw (L.enters d t (omega arith) r, L.none, q)

  -- PNEXT finds lane j, whose position goes to the next place, or none is left
  after-pnext : (o c j : ℕ) → o < d → j < lanes_at e d o → turn m (at Pnext (lane o j) c (o + j)) ≡ at Pnext (lane o (suc j)) (c + 1) (o + suc j)
  unfolding filled
  after-pnext o c j h k = rw (L.next o j h (le_of_lt k), L.hit o j h k, L.place o j h k, add-one (o + j), add-suc o j)

  after_lanes : (o c k : ℕ) → o < d → turn m (at Pnext (lane o (lanes_at e d o)) c k) ≡ at Incp (lane o (suc (lanes_at e d o))) (c + 1) k
  after_lanes o c k h = rw (L.next o (lanes_at e d o) h (omega arith), L.miss o h)

  one_on : (r : ℕ) (w : Walk S) → r ≤ rounds d e → Stands r w → Standing (turn m w)
  one_on r w h (begins z q) =
      (0, omega arith, enters (m.pfalse s) (rw none_yet L.begins) (ap (turn m) q ∙ after-pfalse ∙ ap₂ (at Whilelo (m.pfalse s)) (omega (arith, none_yet)) (sym none_yet)))
  one_on r w h (enters t ready q) = elim (dec_lt (passed_after d e r) d) [ yes k ↦ lanes k | no k ↦ none (omega arith) ]
    where
      lanes : passed_after d e r < d → Standing (turn m w)
      lanes k =
          (r, h, visits 0 (round_left r k) (omega arith) (ap (turn m) q ∙ after_whilelo (passed_after d e r) (count_after d e r) t k ready ∙ ap₂ (at Pnext (lane (passed_after d e r) 0)) (omega arith) (omega arith)))

      none : passed_after d e r ≡ d → Standing (turn m w)
      none all =
          let last : r ≡ rounds d e = elim (dec_lt r (rounds d e)) [ yes k ↦ absurd (omega (arith, some_left r k)) | no k ↦ omega arith ] in
          (r, h, ends last (ap (turn m) (q ∙ ap (at Whilelo t (count_after d e r)) all) ∙ after_last_lem (count_after d e r) t (rw all at ready) (omega arith)))
  one_on r w h (visits j k i q) = elim (dec_lt j (lanes_at e d (passed_after d e r))) [ yes x ↦ more x | no x ↦ none (omega arith) ]
    where
      more : j < lanes_at e d (passed_after d e r) → Standing (turn m w)
      more x =
          (r, h, visits (suc j) k x (ap (turn m) q ∙ after-pnext (passed_after d e r) _ j (some_left r k) x ∙ ap (λ c. at Pnext (lane (passed_after d e r) (suc j)) c (passed_after d e r + suc j)) (omega arith)))

      none : j ≡ lanes_at e d (passed_after d e r) → Standing (turn m w)
      none all =
          (r, h, adds k (ap (turn m) (q ∙ ap (λ i. at Pnext (lane (passed_after d e r) i) (count_after d e r + 1 + i) (passed_after d e r + i)) all) ∙ after_lanes (passed_after d e r) _ _ (some_left r k)))
  one_on r w h (adds k q) =
      let t = m.incp (lane (passed_after d e r) (suc (lanes_at e d (passed_after d e r)))) in (
        suc r,
        k,
        enters t (rw (next_passed r k) (L.adds (passed_after d e r) (some_left r k))) (ap (turn m) q ∙ ap₂ (at Whilelo t) (sym (next-count r k)) (sym (next_passed r k))),
      )
  one_on r w h (ends z q) = (r, h, ends z (ap (turn m) q))

  pub stands : (b : ℕ) → Standing (run m b (begin s l))
  unfolding run
  stands zero = (0, omega arith, begins refl refl)
  stands (suc b) = let (r, h, x) = stands b in one_on r (run m b (begin s l)) h x

  -- ---- what is known of it there

  record Known (r : ℕ) (w : Walk S) : Type 0 where
    list : w.list ≡ filled start l w.visited
    most : w.visited ≤ d
    on : w.ended ≡ false → w.count < budget_for d e
    over : w.ended ≡ true → w ≡ finished
    reached : 0 < r → count_after d e r ≤ w.count
    no_further : r < rounds d e → (w.ended ≡ false) × (w.count < count_after d e (suc r))
    behind : passed_after d e r ≤ w.visited
    unfinished : w.visited ≤ passed_after d e r + e

  -- between two instructions
  known_at : (r c k : ℕ) (p : Phase) (t : S) (w : Walk S) → w ≡ at p t c k → k ≤ d → c < budget_for d e → (0 < r → count_after d e r ≤ c) → (r < rounds d e → c < count_after d e (suc r))
      → passed_after d e r ≤ k → k ≤ passed_after d e r + e → Known r w
  known_at r c k p t w q kd cb re nf be un =
      let cw : w.count ≡ c = ap (λ v. v.count) q in
      let vw : w.visited ≡ k = ap (λ v. v.visited) q in
      let going : w.ended ≡ false = ap (λ v. v.ended) q in
      record {
        list = ap (λ v. v.list) q ∙ ap (filled start l) (sym vw);
        most = omega arith;
        on = λ _. omega arith;
        over = λ x. never x going;
        reached = λ x. omega (arith, re x);
        no_further = λ x. (going, omega (arith, nf x));
        behind = omega arith;
        unfinished = omega arith;
      }

  known : (r : ℕ) (w : Walk S) → r ≤ rounds d e → Stands r w → Known r w
  unfolding filled
  known r w h (begins z q) =
      let none : passed_after d e r ≡ 0 = ap (passed_after d e) z ∙ none_yet in
      known_at r 0 0 Pfalse s w q (omega arith) (omega arith) (λ x. omega arith) (λ _. omega arith) (omega arith) (omega arith)
  known r w h (enters t ready q) = known_at r _ _ _ t w q (omega arith) (omega arith) (λ _. omega arith) (λ x. omega (arith, next-count r x)) (omega arith) (omega arith)
  known r w h (visits j k i q) = known_at r _ _ _ _ w q (omega arith) (omega arith) (λ _. omega arith) (λ x. omega (arith, next-count r x)) (omega arith) (omega arith)
  known r w h (adds k q) = known_at r _ _ _ _ w q (omega arith) (omega arith) (λ _. omega arith) (λ x. omega (arith, next-count r x)) (omega arith) (omega arith)
  known r w h (ends z q) =
      let cw : w.count ≡ budget_for d e = ap (λ v. v.count) q in
      let vw : w.visited ≡ d = ap (λ v. v.visited) q in
      let ended : w.ended ≡ true = ap (λ v. v.ended) q in
      record {
        list = ap (λ v. v.list) q ∙ ap (filled start l) (sym vw);
        most = omega arith;
        on = λ x. never ended x;
        over = λ _. q;
        reached = λ _. omega arith;
        no_further = λ x. absurd (omega arith);
        behind = omega arith;
        unfinished = omega (arith, rounds-le d e pos, ap (λ n. n * e) z);
      }

  -- ---- at every budget

  now : (b : ℕ) → Known (stands b).0 (run m b (begin s l))
  now b = let (r, h, x) = stands b in known r (run m b (begin s l)) h x

  -- what INCP has passed
  pub stopped : (b : ℕ) → Stopped d e b (passed_after d e (stands b).0) (run m b (begin s l)).visited
  stopped b =
      let k = now b in
      record {
        vectors = (stands b).0;
        most = (stands b).1;
        reached = λ q. omega (arith, k.reached q, count_most m b s l);
        no_further = λ q. let (on, less) = k.no_further q in omega (arith, less, count-run m b s l on);
        whole = refl;
        behind = k.behind;
        unfinished = k.unfinished;
      }
