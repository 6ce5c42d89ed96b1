-- A walk that is taken up again where its budget was spent comes to what a single walk does. Assumes nothing but what the types of the walks' arguments say.
use Rattle.std.specs.Prelude.{Ok}
use Rattle.std.proofs.Common.{◌≡◌, ℕ, zero, suc, ◌+◌, ◌-◌, ◌*◌, ◌^◌, ◌<◌, ◌≤◌, max, true, false, List, ◌++◌, length, take, drop, sym, refl, ap, ◌∙◌, subst, ap₂, zero-mul, arith, length-drop, get_or-set_other}
use native.Mathlib.Decide.{ℕ_discrete}
use lib.Seq.{set-get_or}
use Rattle.bits.specs.declared.Size.{Size}
use Rattle.predicates.specs.declared.Flags.{Flags}
use Rattle.predicates.specs.declared.Predicate.{Predicate}
use Rattle.predicates.specs.Predicate.{all_false, elements}
use Rattle.registers.specs.declared.State.{State}
use Rattle.registers.specs.State.{read_x, read_p, with_x, with_p, with_flags}
use Rattle.registers.proofs.Legality.{counts_stay}
use Rattle.words.specs.Words.{size_of}
use Rattle.walk.specs.Demand.{Demand3, needed, final_state}
use Rattle.walk.specs.Lengths.{Typed}
use Rattle.walk.specs.Plain.{Walk}
use Rattle.walk.specs.Resumed.{passed_after, Stopped, grown, Resumes}
use Rattle.walk.specs.Walk.{distance, instructions_of, plain_walk, walked, refusal_of, whole_of}
use Rattle.walk.proofs.Accepted.{Within, accepted_when, accepted_within}
use Rattle.walk.proofs.Answered.{whole_accepted}
use Rattle.walk.proofs.Closed.{lanes_at, rounds-le, filled}
use Rattle.walk.proofs.Standing.{Stands, stands, stopped, filled_joined}
use Rattle.walk.proofs.Standing.Stands.{begins, enters, visits, adds, ends}
use Rattle.walk.proofs.Demands.{demand3, list_filled}
use Rattle.walk.proofs.Kept.{plain_kept}
use Rattle.walk.proofs.Lanes.{base, laws, lane_at, Ready, get_xn, get_xm, put_xn, put_pd, put_pk}
use Rattle.walk.proofs.Steps.{plain-settings}

-- ---- the state under each budget

module _ (size : Size) (n m d k : ℕ) (s : State) (l : List ℕ) (g : Within size n m d k s l) where
  -- the given state but for Xn, Pd, Pk and the flags
  abbrev Based : ℕ → State → Type 0
  Based x t = (pd pk : Predicate) × (f : Flags) × (t ≡ base s n d k x pd pk f)

  as_given : s ≡ base s n d k (read_x s n) (read_p s d) (read_p s k) s.flags
  unfolding with_x with_p with_flags
  as_given = rw (set-get_or s.x n 0, set-get_or s.p d all_false, set-get_or s.p k all_false, counts_stay s d g.ok g.d-below, counts_stay s k g.ok g.k_below)

  laned : (o j : ℕ) → Based (read_x s n + o) (lane_at size n m d k s o j)
  laned o zero = (_, _, _, refl)
  laned o (suc j) = (_, _, _, refl)

  abbrev D : ℕ
  D = distance n m s

  abbrev E : ℕ
  E = elements s.vl size

  based : (r : ℕ) (w : Walk State) → Stands (instructions_of size n m d k) s l (read_x s n) D E (lane_at size n m d k s) (Ready size n m d k s) (laws size n m d k s l g) g.lanes r w
      → Based (read_x s n + passed_after D E r) w.state
  based r w (begins z q) =
      let none : read_x s n ≡ read_x s n + passed_after D E r = omega (arith, zero-mul E, ap (λ (i : ℕ). i * E) z) in
      (read_p s d, read_p s k, s.flags, ap (λ (v : Walk State). v.state) q ∙ as_given ∙ ap (λ (x : ℕ). base s n d k x (read_p s d) (read_p s k) s.flags) none)
  based r w (enters t (pd, f, x) q) = (pd, all_false, f, ap (λ (v : Walk State). v.state) q ∙ x)
  based r w (visits j _ _ q) = subst (Based _) (sym (ap (λ (v : Walk State). v.state) q)) (laned _ j)
  based r w (adds _ q) = subst (Based _) (sym (ap (λ (v : Walk State). v.state) q)) (laned _ (suc (lanes_at E D (passed_after D E r))))
  based r w (ends z q) =
      let all : D ≡ passed_after D E r = omega (arith, rounds-le D E g.lanes, ap (λ (i : ℕ). i * E) z) in
      subst (λ (o : ℕ). Based (read_x s n + o) w.state) all (subst (Based _) (sym (ap (λ (v : Walk State). v.state) q)) (laned D 0))

  -- what such a state has
  module _ (x : ℕ) (pd pk : Predicate) (f : Flags) where
    abbrev there : State
    there = base s n d k x pd pk f

    x_typed : Typed s → x < 2 ^ 64 → Typed (base s n d k x pd pk f)
    unfolding with_x with_p with_flags
    x_typed typed h = record { fits = fits }
      where
        fits : (i : ℕ) → read_x there i < 2 ^ 64
        fits i = elim (ℕ_discrete i n) [
          | yes e ↦ rw e (omega (arith, get_xn size n m d k s l g x pd pk f))
          | no e ↦ omega (arith, typed.fits i, get_or-set_other s.x n i x 0 e)
        ]

    -- the walk's final state hangs on it no more than on the given one
    refinal : max x (read_x s m) ≡ max (read_x s n) (read_x s m) → final_state n m d k (base s n d k x pd pk f) ≡ final_state n m d k s
    unfolding with_x with_p with_flags
    refinal h =
        let top = max (read_x s n) (read_x s m) in
        let flags : Flags = record { n = false; z = true; c = true; v = false } in
        let same : max (read_x there n) (read_x there m) ≡ top = ap₂ max (get_xn size n m d k s l g x pd pk f) (get_xm size n m d k s l g x pd pk f) ∙ h in
        ap (λ (v : ℕ). with_flags (with_p (with_p (with_x there n v) d all_false) k all_false) flags) same
        ∙ ap (λ (t : State). with_flags (with_p (with_p t d all_false) k all_false) flags) (put_xn size n m d k s l g x pd pk f top)
        ∙ ap (λ (t : State). with_flags (with_p t k all_false) flags) (put_pd size n m d k s l g top pd pk f all_false f)
        ∙ ap (λ (t : State). with_flags t flags) (put_pk size n m d k s l g top all_false pk f all_false f)

-- ---- the walk as it is called

-- a walk with budget enough
module _ (size n m d k : ℕ) (s : State) (l : List ℕ) (typed : Typed s) (e : refusal_of size n m d k s (length l) ≡ Ok tt) where
  g : Within (size_of size) n m d k s l
  g = accepted_within size n m d k s l typed e

  done_list : (b : ℕ) → needed (size_of size) n m s ≤ b → (whole_of size n m d k b s l).list ≡ filled (read_x s n) l (distance n m s)
  done_list b h =
      ap (λ (w : Walk State). w.list) (whole_accepted size n m d k b s l e) ∙ list_filled (size_of size) n m d k s l g b
      ∙ ap (filled (read_x s n) l) ((demand3 (size_of size) n m d k s l g b).enough h).visited

  done_state : (b : ℕ) → needed (size_of size) n m s ≤ b → (whole_of size n m d k b s l).state ≡ final_state n m d k s
  done_state b h = ap (λ (w : Walk State). w.state) (whole_accepted size n m d k b s l e) ∙ ((demand3 (size_of size) n m d k s l g b).enough h).state

-- what a walk came to under budget a: its state is the given one but for Xn, Pd, Pk and the flags
module _ (size n m d k : ℕ) (s : State) (l : List ℕ) (typed : Typed s) (e : refusal_of size n m d k s (length l) ≡ Ok tt) (a passed : ℕ) (pd pk : Predicate) (f : Flags)
    (is : (plain_walk (size_of size) n m d k a s l).state ≡ base s n d k (read_x s n + passed) pd pk f)
    (at : Stopped (distance n m s) (elements s.vl (size_of size)) a passed (plain_walk (size_of size) n m d k a s l).visited) where
  abbrev Z : Size
  Z = size_of size

  abbrev v : Walk State
  v = plain_walk (size_of size) n m d k a s l

  abbrev o : ℕ
  o = grown n s (plain_walk (size_of size) n m d k a s l).state

  ok : Within (size_of size) n m d k s l
  ok = accepted_within size n m d k s l typed e

  spent : Demand3 (size_of size) n m d k a s l v.list (walked v)
  spent = demand3 (size_of size) n m d k s l ok a

  at_n : read_x v.state n ≡ read_x s n + passed
  at_n = ap (λ (t : State). read_x t n) is ∙ get_xn Z n m d k s l ok (read_x s n + passed) pd pk f

  at_m : read_x v.state m ≡ read_x s m
  at_m = ap (λ (t : State). read_x t m) is ∙ get_xm Z n m d k s l ok (read_x s n + passed) pd pk f

  grew : o ≡ passed
  grew = omega (arith, at_n)

  below : passed ≤ distance n m s
  below = omega (arith, at.whole)

  typed_there : Typed v.state
  typed_there = subst Typed (sym is) (x_typed Z n m d k s l ok (read_x s n + passed) pd pk f typed (omega (arith, below, typed.fits n, typed.fits m)))

  accepted : refusal_of size n m d k v.state (length (drop o v.list)) ≡ Ok tt
  accepted =
      let given = (accepted_when size n m d k s (length l)).1 e in
      let settings = plain-settings Z n m d k a s l in
      (accepted_when size n m d k v.state (length (drop o v.list))).0 record {
        legal_is = plain_kept Z n m d k a s l given.legal_is;
        registers = given.registers;
        present = omega (arith, given.present, settings.level);
        on = settings.access ∙ given.on;
        room = omega (arith, at_n, at_m, grew, given.room, length-drop o v.list, spent.places);
      }

  list : (b c : ℕ) → needed (size_of size) n m v.state ≤ b → needed (size_of size) n m s ≤ c → take o v.list ++ (whole_of size n m d k b v.state (drop o v.list)).list ≡ (whole_of size n m d k c s l).list
  list b c hb hc =
      let left : distance n m v.state ≡ distance n m s - o = omega (arith, at_n, at_m, grew) in
      let xn : read_x v.state n ≡ read_x s n + o = omega (arith, at_n, grew) in
      let all : o + (distance n m s - o) ≡ distance n m s = omega (arith, grew, below) in
      ap (λ (u : List ℕ). take o v.list ++ u) (done_list size n m d k v.state (drop o v.list) typed_there accepted b hb)
      ∙ ap₂ (λ (x j : ℕ). take o v.list ++ filled x (drop o v.list) j) xn left
      ∙ ap (λ (u : List ℕ). take o u ++ filled (read_x s n + o) (drop o u) (distance n m s - o)) (list_filled Z n m d k s l ok a)
      ∙ filled_joined (read_x s n) l o v.visited (distance n m s - o) (omega (arith, grew, at.behind)) (omega (arith, all, spent.within)) (omega (arith, all, ok.room))
      ∙ ap (filled (read_x s n) l) all ∙ sym (done_list size n m d k s l typed e c hc)

  state : (b c : ℕ) → needed (size_of size) n m v.state ≤ b → needed (size_of size) n m s ≤ c → (whole_of size n m d k b v.state (drop o v.list)).state ≡ (whole_of size n m d k c s l).state
  state b c hb hc =
      done_state size n m d k v.state (drop o v.list) typed_there accepted b hb ∙ ap (final_state n m d k) is
      ∙ refinal Z n m d k s l ok (read_x s n + passed) pd pk f (omega (arith, below)) ∙ sym (done_state size n m d k s l typed e c hc)

  plain_resumed : Resumes size n m d k a s l (plain_walk (size_of size) n m d k a s l)
  plain_resumed = record {
    xn = omega (arith, at_n, grew);
    stopped = subst (λ (i : ℕ). Stopped (distance n m s) (elements s.vl (size_of size)) a i v.visited) (sym grew) at;
    accepted = accepted;
    list = list;
    state = state;
  }

pub resumed : (size n m d k : ℕ) (s : State) (l : List ℕ) → Typed s → refusal_of size n m d k s (length l) ≡ Ok tt → (a : ℕ) → Resumes size n m d k a s l (whole_of size n m d k a s l)
resumed size n m d k s l typed e a =
    let z = size_of size in
    let g = accepted_within size n m d k s l typed e in
    let L = laws z n m d k s l g in
    let (r, _, x) = stands (instructions_of z n m d k) s l (read_x s n) (distance n m s) (elements s.vl z) (lane_at z n m d k s) (Ready z n m d k s) L g.lanes a in
    let at = stopped (instructions_of z n m d k) s l (read_x s n) (distance n m s) (elements s.vl z) (lane_at z n m d k s) (Ready z n m d k s) L g.lanes a in
    let (pd, pk, f, is) = based z n m d k s l g r (plain_walk z n m d k a s l) x in
    subst (Resumes size n m d k a s l) (sym (whole_accepted size n m d k a s l e)) (plain_resumed size n m d k s l typed e a (passed_after (distance n m s) (elements s.vl z) r) pd pk f is at)
