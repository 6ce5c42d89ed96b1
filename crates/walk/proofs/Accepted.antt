-- What holds of a walk that is not refused. Assumes nothing.
use Rattle.replies.specs.Reply.{Reply, number_of}
use Rattle.std.specs.Prelude.{Ok, Err}
use Rattle.std.proofs.Common.{◌≡◌, ℕ, ◌^◌, ◌<◌, ◌≤◌, Bool, true, false, not, ◌||◌, eqb, ltb, ◌↔◌, List, length, get_or, sym, refl, ap, ◌∙◌, ap₂, arith, w64, Fits, ltb-false, le-ltb, lt-ltb, eq-eqb, ne_eqb}
use borrow.Author.Tests.{eqb-false}
use Rattle.bits.specs.declared.Size.{Size}
use Rattle.bits.specs.Choice.{pick}
use Rattle.bits.proofs.Searches.{never}
use Rattle.predicates.specs.Predicate.{elements}
use Rattle.predicates.proofs.Lengths.{elements_pos}
use Rattle.replies.specs.declared.Refusal.TheVariants as R
use Rattle.registers.specs.declared.State.{State}
use Rattle.registers.specs.Legal.{legal}
use Rattle.registers.specs.State.{read_x}
use Rattle.registers.proofs.Legality.{legal_has, legal_sized, quads}
use Rattle.words.specs.Words.{size_of}
use Rattle.machine.proofs.Steps.{pick_yes, pick_no}
use Rattle.walk.specs.Given.{GoodRegisters, Accepted}
use Rattle.walk.specs.Walk.{bad_registers, distance, refusal_of}
use Rattle.walk.specs.Lengths.{Typed}

past : (b : Bool) (r x : Reply) → 0 < number_of r → pick b r x ≡ Ok tt → (b ≡ false) × (x ≡ Ok tt)
past true r x h e = absurd (omega (arith, ap number_of e))
past false r x h e = (refl, e)

neither : (a b : Bool) → (a || b) ≡ false → (a ≡ false) × (b ≡ false)
neither true b e = never refl e
neither false b e = (refl, e)

not-false : (b : Bool) → not b ≡ false → b ≡ true
not-false true e = refl
not-false false e = sym e

pub x_fits : (s : State) → ((i : ℕ) → Fits w64 (get_or s.x i 0)) → (i : ℕ) → read_x s i < 2 ^ 64
x_fits s h i = (h i).fits

-- what holds of a walk that is not refused
pub record Within (size : Size) (n m d k : ℕ) (s : State) (l : List ℕ) : Type 0 where
  pub n_below : n < 31
  pub m_below : m < 32
  pub other_x : m ≡ n → ⊥
  pub d-below : d < 16
  pub k_below : k < 16
  pub other_p : d ≡ k → ⊥
  pub xs : length s.x ≡ 31
  pub ps : length s.p ≡ 17
  pub cs : length s.counts ≡ 16
  pub ok : legal s ≡ true
  pub lanes : 0 < elements s.vl size
  pub start_fits : read_x s n < 2 ^ 64
  pub limit_fits : read_x s m < 2 ^ 64
  pub room : distance n m s ≤ length l

lanes_there : (s : State) (size : Size) → legal s ≡ true → 0 < elements s.vl size
lanes_there s size h =
    let q = quads s.vl (legal_has s h).len in
    rw q.1 (elements_pos q.0 size q.2 q.3)

-- ---- exactly when it is not refused

-- none of the tests of reply 10 holds
pub registers_good : (size n m d k : ℕ) → GoodRegisters size n m d k ↔ (bad_registers size n m d k ≡ false)
unfolding bad_registers
registers_good size n m d k = (none, all)
  where
    none : GoodRegisters size n m d k → bad_registers size n m d k ≡ false
    none g =
        ap₂ ◌||◌ (le-ltb 31 n g.start) (ap₂ ◌||◌ (le-ltb 31 m g.limit) (ap₂ ◌||◌ (le-ltb 15 d g.lanes) (ap₂ ◌||◌ (le-ltb 15 k g.cursor)
        (ap₂ ◌||◌ (le-ltb 3 size g.element) (ap₂ ◌||◌ (ne_eqb n 31 g.not_31) (ap₂ ◌||◌ (ne_eqb n m g.two_x) (ne_eqb d k g.two_p)))))))

    all : bad_registers size n m d k ≡ false → GoodRegisters size n m d k
    all e =
        let n₁ = neither (ltb 31 n) _ e in
        let m₁ = neither (ltb 31 m) _ n₁.1 in
        let d₁ = neither (ltb 15 d) _ m₁.1 in
        let k₁ = neither (ltb 15 k) _ d₁.1 in
        let z₁ = neither (ltb 3 size) _ k₁.1 in
        let n₂ = neither (eqb n 31) _ z₁.1 in
        let nm = neither (eqb n m) (eqb d k) n₂.1 in
        record {
          start = ltb-false 31 n n₁.0;
          limit = ltb-false 31 m m₁.0;
          lanes = ltb-false 15 d d₁.0;
          cursor = ltb-false 15 k k₁.0;
          element = ltb-false 3 size z₁.0;
          not_31 = eqb-false n 31 n₂.0;
          two_x = eqb-false n m nm.0;
          two_p = eqb-false d k nm.1;
        }

-- the refusal past each test
module _ (size n m d k : ℕ) (s : State) (places : ℕ) where
  abbrev past_3 : Reply
  past_3 = pick (ltb places (distance n m s)) (Err R.ListTooShort) (Ok tt)

  abbrev past_2 : Reply
  past_2 = pick (not s.access) (Err R.AccessOff) past_3

  abbrev past_10 : Reply
  past_10 = pick (eqb s.level 0) (Err R.LevelTooLow) past_2

  pub refused_4 : legal s ≡ false → refusal_of size n m d k s places ≡ Err R.IllegalState
  unfolding refusal_of
  refused_4 e = pick_yes _ _ _ (ap not e)

  module _ (ok : legal s ≡ true) where
    pub refused_10 : bad_registers size n m d k ≡ true → refusal_of size n m d k s places ≡ Err R.BadWalkRegisters
    unfolding refusal_of
    refused_10 e = pick_no _ _ _ (ap not ok) ∙ pick_yes _ _ _ e

    module _ (g : GoodRegisters size n m d k) where
      after_10 : refusal_of size n m d k s places ≡ past_10
      unfolding refusal_of
      after_10 = pick_no _ _ _ (ap not ok) ∙ pick_no _ _ _ ((registers_good size n m d k).0 g)

      pub refused_2 : s.level ≡ 0 → refusal_of size n m d k s places ≡ Err R.LevelTooLow
      refused_2 e = after_10 ∙ pick_yes _ _ _ (eq-eqb s.level 0 e)

      module _ (present : 0 < s.level) where
        after_2 : refusal_of size n m d k s places ≡ past_2
        after_2 = after_10 ∙ pick_no _ _ _ (ne_eqb s.level 0 (λ e. omega arith))

        pub refused_3 : s.access ≡ false → refusal_of size n m d k s places ≡ Err R.AccessOff
        refused_3 e = after_2 ∙ pick_yes _ _ _ (ap not e)

        module _ (on : s.access ≡ true) where
          after_3 : refusal_of size n m d k s places ≡ past_3
          after_3 = after_2 ∙ pick_no _ _ _ (ap not on)

          pub refused_11 : places < distance n m s → refusal_of size n m d k s places ≡ Err R.ListTooShort
          refused_11 l = after_3 ∙ pick_yes _ _ _ (lt-ltb places (distance n m s) l)

          not-refused : distance n m s ≤ places → refusal_of size n m d k s places ≡ Ok tt
          not-refused l = after_3 ∙ pick_no _ _ _ (le-ltb places (distance n m s) l)

  -- the premises of demand 3 hold exactly if the walk is refused by none of 4, 10, 2, 3 and 11
  pub accepted_when : Accepted size n m d k s places ↔ (refusal_of size n m d k s places ≡ Ok tt)
  unfolding refusal_of
  accepted_when = (λ a. not-refused a.legal_is a.registers a.present a.on a.room, accepted)
    where
      accepted : refusal_of size n m d k s places ≡ Ok tt → Accepted size n m d k s places
      accepted e =
          let a = past (not (legal s)) (Err R.IllegalState) _ (omega arith) e in
          let b = past (bad_registers size n m d k) (Err R.BadWalkRegisters) _ (omega arith) a.1 in
          let level = past (eqb s.level 0) (Err R.LevelTooLow) _ (omega arith) b.1 in
          let access = past (not s.access) (Err R.AccessOff) _ (omega arith) level.1 in
          let room = past (ltb places (distance n m s)) (Err R.ListTooShort) (Ok tt) (omega arith) access.1 in
          let zero : s.level ≡ 0 → ⊥ = eqb-false s.level 0 level.0 in
          record {
            legal_is = not-false (legal s) a.0;
            registers = (registers_good size n m d k).1 b.0;
            present = omega arith;
            on = not-false s.access access.0;
            room = ltb-false places (distance n m s) room.0;
          }

-- ---- and then

-- Pd and Pk are two of P0 to P15
pub p_below : (size n m d k : ℕ) (s : State) (places : ℕ) → refusal_of size n m d k s places ≡ Ok tt → (d < 16) × (k < 16)
p_below size n m d k s places e =
    let g = ((accepted_when size n m d k s places).1 e).registers in
    (omega arith, omega arith)

pub accepted_within : (size n m d k : ℕ) (s : State) (l : List ℕ) → Typed s → refusal_of size n m d k s (length l) ≡ Ok tt → Within (size_of size) n m d k s l
accepted_within size n m d k s l typed e =
    let a = (accepted_when size n m d k s (length l)).1 e in
    let g = a.registers in
    let start : n ≡ 31 → ⊥ = g.not_31 in
    let sized = legal_sized s a.legal_is in
    record {
      n_below = omega arith;
      m_below = omega arith;
      other_x = λ q. g.two_x (sym q);
      d-below = omega arith;
      k_below = omega arith;
      other_p = g.two_p;
      xs = sized.xs;
      ps = sized.ps;
      cs = sized.cs;
      ok = a.legal_is;
      lanes = lanes_there s (size_of size) a.legal_is;
      start_fits = typed.fits n;
      limit_fits = typed.fits m;
      room = a.room;
    }
