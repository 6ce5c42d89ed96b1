-- What the plain walk comes to, from the laws of its four instructions. Assumes nothing but those laws.
use Rattle.std.proofs.Common.{◌≡◌, ℕ, zero, suc, ◌+◌, ◌-◌, ◌*◌, ◌<◌, ◌≤◌, min, Bool, true, false, List, length, get_or, set, sym, refl, ap, ◌∙◌, add-zero, le_of_lt, add-suc, suc-mul, le-div_iff_mul-le, zero-mul, add-one, arith, length-set, get_or-set_other, get_or-set_same, ext_get_or}
use native.Mathlib.Decide.{dec_lt}
use Rattle.walk.specs.declared.Phase.{Phase}
use Rattle.walk.specs.declared.Phase.TheVariants.{Whilelo, Pnext, Incp}
use Rattle.walk.specs.Plain.{WalkInstructions, Walk, begin, turn, run, rounds, budget_for}
use Rattle.walk.proofs.Runs.{run-add, run_ended, run_one, Later, later_run, later_refl}

-- The lanes of a round that begins after `o` of `d` positions, with `e` lanes to a vector
abbrev pub lanes_at : ℕ → ℕ → ℕ → ℕ
lanes_at e d o = min e (d - o)

-- What the walk needs of its instructions. `lane o j` is the state in the round that begins after `o` positions with the
-- cursor on lane j - 1 (at 0: on none, as WHILELO left it); `Ready o` holds of the states from which that round's WHILELO may start.
pub record Laws {S : Type 0} (m : WalkInstructions S) (s : S) (start d e : ℕ) (lane : ℕ → ℕ → S) (Ready : ℕ → S → Type 0) : Type 0 where
  pub begins : Ready 0 (m.pfalse s)
  pub enters : (o : ℕ) (t : S) → o ≤ d → Ready o t → m.whilelo t ≡ lane o 0
  pub some : (o : ℕ) → o < d → m.zero_flag (lane o 0) ≡ false
  pub none : m.zero_flag (lane d 0) ≡ true
  pub next : (o j : ℕ) → o < d → j ≤ lanes_at e d o → m.pnext (lane o j) ≡ lane o (suc j)
  pub hit : (o j : ℕ) → o < d → j < lanes_at e d o → m.zero_flag (lane o (suc j)) ≡ false
  pub miss : (o : ℕ) → o < d → m.zero_flag (lane o (suc (lanes_at e d o))) ≡ true
  pub place : (o j : ℕ) → o < d → j < lanes_at e d o → m.position (lane o (suc j)) ≡ start + (o + j)
  pub adds : (o : ℕ) → o < d → Ready (o + lanes_at e d o) (m.incp (lane o (suc (lanes_at e d o))))

-- r is below R exactly if r full rounds leave a position
pub rounds-lt : (d e r : ℕ) → 0 < e → r < rounds d e → r * e < d
rounds-lt d e r h k = omega (arith, suc-mul r e, (le-div_iff_mul-le h).0 k)

pub rounds-le : (d e : ℕ) → 0 < e → d ≤ rounds d e * e
rounds-le d e h = elim (dec_lt (rounds d e * e) d) [ yes k ↦ absurd (more k) | no k ↦ omega arith ]
  where
    more : rounds d e * e < d → ⊥
    more k = omega (arith, (le-div_iff_mul-le {x = suc (rounds d e)} {y = d + (e - 1)} h).1 (omega (arith, suc-mul (rounds d e) e)))

-- the list with start, start + 1, .. at its first places
unfoldable pub filled : ℕ → List ℕ → ℕ → List ℕ
filled start l zero = l
filled start l (suc k) = set (filled start l k) k (start + k)

module _ (start : ℕ) (l : List ℕ) where
  pub filled_length : (k : ℕ) → length (filled start l k) ≡ length l
  unfolding filled
  filled_length zero = refl
  filled_length (suc k) = length-set (filled start l k) k (start + k) ∙ filled_length k

  pub filled_past : (k i : ℕ) → k ≤ i → get_or (filled start l k) i 0 ≡ get_or l i 0
  unfolding filled
  filled_past zero i h = refl
  filled_past (suc k) i h = get_or-set_other (filled start l k) k i (start + k) 0 (omega arith) ∙ filled_past k i (le_of_lt h)

  pub filled_at : (k i : ℕ) → i < k → k ≤ length l → get_or (filled start l k) i 0 ≡ start + i
  unfolding filled
  filled_at zero i h q = absurd (omega arith)
  filled_at (suc k) i h q = elim (dec_lt i k) [
    | yes j ↦ get_or-set_other (filled start l k) k i (start + k) 0 (omega arith) ∙ filled_at k i j (le_of_lt q)
    | no j ↦ let same : i ≡ k = omega arith in rw same (get_or-set_same (filled start l k) k (start + k) 0 (omega (arith, filled_length k)))
  ]

module _ {S : Type 0} (m : WalkInstructions S) (s : S) (l : List ℕ) (start d e : ℕ) (lane : ℕ → ℕ → S) (Ready : ℕ → S → Type 0)
    (L : Laws m s start d e lane Ready) (pos : 0 < e) where
  -- The walk before instruction p, in state t after k positions and c instructions
  abbrev at : Phase → S → ℕ → ℕ → Walk S
  at p t c k = record { state = t; list = filled start l k; count = c; visited = k; next = p; ended = false }

  lanes : (o c j : ℕ) → o < d → j ≤ lanes_at e d o → run m j (at Pnext (lane o 0) c o) ≡ at Pnext (lane o j) (c + j) (o + j)
  unfolding run filled
  lanes o c zero h k = rw (add-zero, add-zero)
  lanes o c (suc j) h k = rw (lanes o c j h (omega arith), L.next o j h (omega arith), L.hit o j h k, L.place o j h k, add-one, add-one, add-suc o j, add-suc c j)

  enter : (o c : ℕ) (t : S) → o < d → Ready o t → run m 1 (at Whilelo t c o) ≡ at Pnext (lane o 0) (c + 1) o
  unfolding run
  enter o c t h r = rw (L.enters o t (omega arith) r, L.some o h)

  pass : (o c k : ℕ) → o < d → turn m (at Pnext (lane o (lanes_at e d o)) c k) ≡ at Incp (lane o (suc (lanes_at e d o))) (c + 1) k
  pass o c k h = rw (L.next o (lanes_at e d o) h (omega arith), L.miss o h)

  -- One round
  round : (o c : ℕ) (t : S) → o < d → Ready o t
      → run m (lanes_at e d o + 3) (at Whilelo t c o) ≡ at Whilelo (m.incp (lane o (suc (lanes_at e d o)))) (c + (lanes_at e d o + 3)) (o + lanes_at e d o)
  round o c t h r =
      let w = lanes_at e d o in
      let split : w + 3 ≡ 1 + w + 1 + 1 = omega arith in
      let counted : c + 1 + w + 1 + 1 ≡ c + (1 + w + 1 + 1) = omega arith in
      rw (split, run_one m, run_one m, run-add m 1 w, enter o c t h r, lanes o (c + 1) w h (omega arith), pass o (c + 1 + w) (o + w) h)
      (ap (λ n. at Whilelo (m.incp (lane o (suc w))) n (o + w)) counted)

  -- Before a WHILELO, after o positions and c instructions
  record Before (o c : ℕ) : Type 0 where
    state : S
    ready : Ready o state
    reached : run m c (begin s l) ≡ at Whilelo state c o

  first : Before 0 1
  unfolding run filled
  first = record { state = m.pfalse s; ready = L.begins; reached = refl }

  more : (o c : ℕ) → o < d → Before o c → Before (o + lanes_at e d o) (c + (lanes_at e d o + 3))
  more o c h b = record {
    state = m.incp (lane o (suc (lanes_at e d o)));
    ready = L.adds o h;
    reached = rw (run-add m c, b.reached) (round o c b.state h b.ready);
  }

  offset : ℕ → ℕ
  offset r = min (r * e) d

  none_yet : min (0 * e) d ≡ 0
  none_yet = omega (arith, zero-mul e)

  next-offset : (r : ℕ) → r < rounds d e → min (suc r * e) d ≡ min (r * e) d + lanes_at e d (min (r * e) d)
  next-offset r h = omega (arith, suc-mul r e, rounds-lt d e r pos h)

  next-count : (r : ℕ) → r < rounds d e
      → 1 + min (suc r * e) d + 3 * suc r ≡ 1 + min (r * e) d + 3 * r + (lanes_at e d (min (r * e) d) + 3)
  next-count r h = omega (arith, next-offset r h)

  before-first : Before (min (0 * e) d) (1 + min (0 * e) d + 3 * 0)
  before-first = rw none_yet first

  before-next : (r : ℕ) → r < rounds d e → Before (min (r * e) d) (1 + min (r * e) d + 3 * r)
      → Before (min (suc r * e) d) (1 + min (suc r * e) d + 3 * suc r)
  before-next r h b = rw (next-count r h, next-offset r h) (more _ _ (omega (arith, rounds-lt d e r pos h)) b)

  before : (r : ℕ) → r ≤ rounds d e → Before (min (r * e) d) (1 + min (r * e) d + 3 * r)
  before zero h = before-first
  before (suc r) h = before-next r h (before r (le_of_lt h))

  -- The walk before its last WHILELO
  last : Before d (d + 3 * rounds d e + 1)
  last =
      let all : min (rounds d e * e) d ≡ d = omega (arith, rounds-le d e pos) in
      let counted : 1 + min (rounds d e * e) d + 3 * rounds d e ≡ d + 3 * rounds d e + 1 = omega (arith, rounds-le d e pos) in
      rw (counted, all) at (before (rounds d e) (omega arith))

  -- The walk after it
  abbrev pub finished : Walk S
  finished = record { state = lane d 0; list = filled start l d; count = budget_for d e; visited = d; next = Pnext; ended = true }

  pub at_end : run m (budget_for d e) (begin s l) ≡ finished
  at_end =
      let split : budget_for d e ≡ d + 3 * rounds d e + 1 + 1 = omega arith in
      rw (split, run_one m, last.reached, L.enters d last.state (omega arith) last.ready, L.none)

  pub enough : (b : ℕ) → budget_for d e ≤ b → run m b (begin s l) ≡ finished
  enough b h =
      let split : b ≡ budget_for d e + (b - budget_for d e) = omega arith in
      rw (split, run-add m (budget_for d e), at_end, run_ended m (b - budget_for d e) finished refl)

  -- Before the last WHILELO it has not ended, so it has not at any smaller budget
  pub short : (b : ℕ) → b < budget_for d e → (run m b (begin s l)).ended ≡ false
  short b h = go (run m b (begin s l)).ended refl
    where
      k : ℕ
      k = d + 3 * rounds d e + 1

      go : (z : Bool) → (run m b (begin s l)).ended ≡ z → z ≡ false
      go false q = refl
      go true q =
          let split : k ≡ b + (k - b) = omega arith in
          let same : run m k (begin s l) ≡ run m b (begin s l) = rw (split, run-add m b, run_ended m (k - b) (run m b (begin s l)) q) in
          sym q ∙ ap (λ w. w.ended) (sym same ∙ last.reached)

  -- Every budget's walk goes on to the finished one
  pub toward-end : (b : ℕ) → Later m (run m b (begin s l)) finished
  toward-end b = elim (dec_lt b (budget_for d e)) [ yes h ↦ less h | no h ↦ rw (enough b (omega arith)) (later_refl m finished) ]
    where
      less : b < budget_for d e → Later m (run m b (begin s l)) finished
      less h =
          let split : b + (budget_for d e - b) ≡ budget_for d e = omega arith in
          let same : run m (budget_for d e - b) (run m b (begin s l)) ≡ finished = sym (run-add m b _ _) ∙ rw split at_end in
          rw same at (later_run m (budget_for d e - b) (run m b (begin s l)))

  -- A PNEXT that finds a lane has a place in a list of at least d places
  pub place-below : (b : ℕ) → (run m b (begin s l)).ended ≡ false → (run m b (begin s l)).next ≡ Pnext
      → m.zero_flag (m.pnext (run m b (begin s l)).state) ≡ false → (run m b (begin s l)).visited < d
  place-below b q n z =
      let one : (run m (b + 1) (begin s l)).visited ≡ (run m b (begin s l)).visited + 1 = rw (run_one m, q, n, z) in
      omega (arith, (toward-end (b + 1)).further)

  -- What the list holds under any budget
  pub list_run : (b : ℕ) → d ≤ length l → (run m b (begin s l)).list ≡ filled start l (run m b (begin s l)).visited
  list_run b h = ext_get_or 0 _ _ ((later_run m b (begin s l)).as_long ∙ sym (filled_length start l _)) go
    where
      w : Walk S
      w = run m b (begin s l)

      go : (i : ℕ) → i < length w.list → get_or w.list i 0 ≡ get_or (filled start l w.visited) i 0
      go i k = elim (dec_lt i w.visited) [
        | yes j ↦ sym ((toward-end b).kept i j) ∙ filled_at start l d i (omega (arith, (toward-end b).further)) h ∙ sym (filled_at start l w.visited i j (omega (arith, (toward-end b).further)))
        | no j ↦ (later_run m b (begin s l)).beyond i (omega arith) ∙ sym (filled_past start l w.visited i (omega arith))
      ]
