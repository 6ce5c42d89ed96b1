-- A turn of the walk's loop, instruction by instruction: between two turns its locals are the plain walk with the count as its budget. Assumes nothing.
use Rattle.std.specs.Prelude.{Ok, Err}
use Rattle.std.proofs.Common.{◌≡◌, ℕ, ◌+◌, ◌*◌, ◌%◌, ◌^◌, ◌<◌, ◌≤◌, Bool, true, false, not, ◌&&◌, eqb, List, length, set, sym, refl, ap, ◌∙◌, subst, arith, w64}
use borrow.Author.Tests.{not-true, not-false}
use Rattle.bits.specs.declared.Size.{Size}
use Rattle.bits.specs.Choice.{pick}
use Rattle.bits.specs.Search.{count, first_from, after_last}
use Rattle.bits.specs.Size.{shift}
use Rattle.bits.proofs.Sizes.{shift-lt, shifted}
use Rattle.predicates.specs.declared.Flags.{Flags}
use Rattle.predicates.specs.declared.Predicate.{Predicate}
use Rattle.predicates.specs.PredTest.{nzcv, flags_of}
use Rattle.predicates.specs.Predicate.{bit_at, pack, all_false, active, touched, spread, span_of, elements, live_of}
use Rattle.predicates.proofs.Live.{elements-le}
use Rattle.registers.specs.declared.State.{State}
use Rattle.replies.specs.declared.Refusal.TheVariants.{BudgetSpent}
use Rattle.registers.specs.State.{read_x, read_p, with_x, with_p, with_flags}
use Rattle.scalars.specs.declared.Condition.TheVariants.{Less}
use Rattle.scalars.specs.Value.{low_of}
use Rattle.scalars.specs.While.{comparison, all_held}
use Rattle.words.specs.Words.{size_of}
use Rattle.instructions.specs.Whiles.{span_flags}
use Rattle.walk.specs.declared.Phase.{Phase}
use Rattle.walk.specs.declared.Phase.TheVariants.{Pfalse, Whilelo, Pnext, Incp}
use Rattle.walk.specs.declared.Walked.{Walked}
use Rattle.walk.specs.Plain.{WalkInstructions, Walk, begin, advanced, execute, run}
use Rattle.walk.specs.Walk.{instructions_of, plain_walk, walked}
use Rattle.walk.proofs.Accepted.{Within}
use Rattle.walk.proofs.Lanes.{base, room}
use Rattle.walk.proofs.Runs.{later_run, walk-eq, one_more, settled}
use Rattle.walk.proofs.Turns.{Measured, measures, measured_on, pfalse-not, whilelo_not, incp_not, z_flag, begins, clears, selects, adds, advances_past, advances_to, visits}

-- the loop's locals
pub record Locals : Type 0 where
  pub list : List ℕ
  pub x : ℕ
  pub lanes : Predicate
  pub cursor : Predicate
  pub flags : Flags
  pub low : ℕ
  pub end : ℕ
  pub next : ℕ
  pub phase : Phase
  pub ended : Bool
  pub visited : ℕ
  pub count : ℕ

module _ (size : Size) (n m d k budget : ℕ) (s : State) (l : List ℕ) where
  -- the plain walk as the locals have it
  abbrev pub walk_at : Locals → Walk State
  walk_at h = record {
    state = base s n d k h.x h.lanes h.cursor h.flags;
    list = h.list;
    count = h.count;
    visited = h.visited;
    next = h.phase;
    ended = h.ended;
  }

  -- what holds between two turns
  pub record Between (h : Locals) : Type 0 where
    pub budgeted : h.count ≤ budget
    pub reached : plain_walk size n m d k h.count s l ≡ walk_at h
    pub measured : h.phase ≡ Pnext → Measured s.vl size h.lanes h.cursor h.low h.end h.next

-- the same of locals that are equal, one by one
pub as_left : {size : Size} {n m d k budget : ℕ} {s : State} {l : List ℕ} {v h : Locals} → v.list ≡ h.list → v.x ≡ h.x → v.lanes ≡ h.lanes → v.cursor ≡ h.cursor
    → v.flags ≡ h.flags → v.low ≡ h.low → v.end ≡ h.end → v.next ≡ h.next → v.phase ≡ h.phase → v.ended ≡ h.ended → v.visited ≡ h.visited → v.count ≡ h.count
    → Between size n m d k budget s l h → Between size n m d k budget s l v
as_left {size = size} {n = n} {m = m} {d = d} {k = k} {budget = budget} {s = s} {l = l} e0 e1 e2 e3 e4 e5 e6 e7 e8 e9 e10 e11 b =
    subst (Between size n m d k budget s l) (sym (λ i. record { list = e0 i; x = e1 i; lanes = e2 i; cursor = e3 i; flags = e4 i; low = e5 i; end = e6 i; next = e7 i; phase = e8 i; ended = e9 i; visited = e10 i; count = e11 i })) b

-- the lowest bit of an element below the vector's end, as the code shifts it
pub bit-at : (vl : ℕ) (size : Size) {e i j : ℕ} → j ≡ shift size → i ≡ elements vl size → e < i → (e * 2 ^ j) % 2 ^ 64 ≡ e * 2 ^ shift size
bit-at vl size {e = e} ej ei h = ap (λ (x : ℕ). (e * 2 ^ x) % 2 ^ 64) ej ∙ shifted e (shift size) (omega (arith, elements-le vl size)) (shift-lt size)

-- PNEXT's flags where it finds none
abbrev none_left : Flags
none_left = record { n = false; z = true; c = true; v = false }

-- the first turn
pub first-turn : {size : Size} {n m d k : ℕ} {s : State} {l : List ℕ} (budget : ℕ) → Within size n m d k s l → {x : ℕ} {lanes cursor : Predicate} → x ≡ read_x s n → lanes ≡ read_p s d → cursor ≡ read_p s k
    → Between size n m d k budget s l (record { list = l; x = x; lanes = lanes; cursor = cursor; flags = s.flags; low = 0; end = 0; next = 0; phase = Pfalse; ended = false; visited = 0; count = 0 })
unfolding run
first-turn {size = size} {n = n} {m = m} {d = d} {k = k} {s = s} {l = l} budget g ex ed ek = record {
  budgeted = omega arith;
  reached = ap (λ (t : State). begin t l) (sym (begins size n m d k s l g)) ∙ λ i. begin (base s n d k (sym ex i) (sym ed i) (sym ek i) s.flags) l;
  measured = λ e. absurd (pfalse-not e);
}

module _ {size : Size} {n m d k budget : ℕ} {s : State} {l : List ℕ} {h : Locals} (g : Within size n m d k s l) (b : Between size n m d k budget s l h) where
  abbrev M : WalkInstructions State
  M = instructions_of size n m d k

  abbrev Holds : Locals → Type 0
  Holds = Between size n m d k budget s l

  abbrev walk_as : Locals → Walk State
  walk_as = walk_at size n m d k budget s l

  abbrev w : Walk State
  w = walk_as h

  abbrev new : ℕ → Predicate → Predicate → Flags → State
  new = base s n d k

  -- after the last turn
  pub once_ended : not h.ended ≡ false → plain_walk size n m d k budget s l ≡ walk_as h
  once_ended e = settled M h.count budget (begin s l) w b.reached (not-false h.ended e) b.budgeted

  pub once_spent : budget ≤ h.count → plain_walk size n m d k budget s l ≡ walk_as h
  once_spent q =
      let same : budget ≡ h.count = omega (arith, b.budgeted) in
      ap (λ j. run M j (begin s l)) same ∙ b.reached

  -- the answer, by the number that names the size
  pub answers : (number : ℕ) → size ≡ size_of number → plain_walk size n m d k budget s l ≡ walk_as h
      → {s₁ s₂ s₃ s₄ : State} {r : Walked} → s₁ ≡ with_x s n h.x → s₂ ≡ with_p s₁ d h.lanes → s₃ ≡ with_p s₂ k h.cursor → s₄ ≡ with_flags s₃ h.flags
      → r ≡ record { reply = pick h.ended (Ok tt) (Err BudgetSpent); count = h.count; visited = h.visited; state = s₄ }
      → (r ≡ walked (plain_walk (size_of number) n m d k budget s l)) × (h.list ≡ (plain_walk (size_of number) n m d k budget s l).list)
  answers number es e ex ed ek ef er =
      let state = ef ∙ ap (λ (t : State). with_flags t h.flags) (ek ∙ ap (λ (t : State). with_p t k h.cursor) (ed ∙ ap (λ (t : State). with_p t d h.lanes) ex)) in
      let whole = sym e ∙ ap (λ (z : Size). plain_walk z n m d k budget s l) es in (
        er ∙ ap (λ (t : State). record { reply = pick h.ended (Ok tt) (Err BudgetSpent); count = h.count; visited = h.visited; state = t }) state ∙ ap walked whole,
        ap (λ (v : Walk State). v.list) whole,
      )

  module _ (goes : not h.ended ≡ true) (left : h.count < budget) where
    on : h.ended ≡ false
    on = not-true h.ended goes

    turned : (p : Phase) → h.phase ≡ p → (v : Locals) → v.count ≡ h.count + 1 → execute M p w ≡ walk_as v
        → (v.phase ≡ Pnext → Measured s.vl size v.lanes v.cursor v.low v.end v.next) → Holds v
    turned p ep v counted e measured = record {
      budgeted = omega arith;
      reached = ap (λ j. run M j (begin s l)) counted ∙ one_more M h.count (begin s l) w (walk_as v) b.reached on p ep e;
      measured = measured;
    }

    pub turn-pfalse : h.phase ≡ Pfalse → {q : Predicate} → q ≡ all_false
        → Holds (record { list = h.list; x = h.x; lanes = h.lanes; cursor = q; flags = h.flags; low = h.low; end = h.end; next = h.next; phase = Whilelo; ended = h.ended; visited = h.visited; count = h.count + 1 })
    turn-pfalse ep {q} eq =
        turned Pfalse ep _ refl
        (walk-eq M (sym (clears size n m d k s l g h.x h.lanes h.cursor h.flags q eq)) refl refl refl refl (sym on))
        (λ e. absurd (whilelo_not e))

    pub turn_whilelo : h.phase ≡ Whilelo → {limit e c z low end from : ℕ} {v q u u' : Predicate} {f : Flags}
        → limit ≡ read_x s m → e ≡ elements s.vl size → v ≡ live_of s.vl size
        → c ≡ count (all_held (comparison w64 true Less (low_of w64 h.x) (low_of w64 limit))) e → q ≡ span_of (shift size) 0 c → z ≡ nzcv (span_flags true c e) → f ≡ flags_of z
        → u ≡ pack (λ i. bit_at q i && bit_at v i) → low ≡ first_from (bit_at u) 0 256 → end ≡ after_last (bit_at u) 256
        → u' ≡ pack (λ i. bit_at h.cursor i && bit_at v i) → from ≡ after_last (touched (shift size) u') 256
        → Holds (record { list = h.list; x = h.x; lanes = q; cursor = h.cursor; flags = f; low = low; end = end; next = from; phase = Pnext; ended = eqb c 0; visited = h.visited; count = h.count + 1 })
    turn_whilelo ep {c = c} {f = f} il ie iv ic iq iz ih iu ilow iend iu' ifrom =
        let et = selects size n m d k s l g h.x h.lanes h.cursor h.flags _ _ _ _ _ _ il ie ic iq iz ih in
        turned Whilelo ep _ refl
        (walk-eq M (sym et.0) refl refl refl refl
        (ap (λ (t : State). t.flags.z) (sym et.0) ∙ z_flag s n d k _ _ _ _ ∙ et.1))
        (λ _. measures s.vl size _ h.cursor _ _ _ _ _ _ iv iu ilow iend iu' ifrom)

    pub turn_incp : h.phase ≡ Incp → {v u : Predicate} {c y : ℕ} → v ≡ live_of s.vl size → u ≡ pack (λ i. bit_at h.lanes i && bit_at v i) → c ≡ count (bit_at u) 256
        → y ≡ (h.x + c) % 2 ^ 64
        → Holds (record { list = h.list; x = y; lanes = h.lanes; cursor = h.cursor; flags = h.flags; low = h.low; end = h.end; next = h.next; phase = Whilelo; ended = h.ended; visited = h.visited; count = h.count + 1 })
    turn_incp ep iv iu ic iy =
        turned Incp ep _ refl
        (walk-eq M (sym (adds size n m d k s l g h.x h.lanes h.cursor h.flags _ _ _ _ iv iu ic iy)) refl refl refl refl (sym on))
        (λ e. absurd (whilelo_not e))

    -- PNEXT, by the element that its search found among `i`
    module _ (ep : h.phase ≡ Pnext) {e i : ℕ} (ie : e ≡ first_from (active (shift size) h.lanes) h.next i) (ii : i ≡ elements s.vl size) where
      pub turn-past : i ≤ e → {q : Predicate} → q ≡ all_false
          → Holds (record { list = h.list; x = h.x; lanes = h.lanes; cursor = q; flags = none_left; low = h.low; end = h.end; next = h.next; phase = Incp; ended = h.ended; visited = h.visited; count = h.count + 1 })
      turn-past past {q} iq =
          let et = advances_past size n m d k s l g h.x h.lanes h.cursor h.flags _ _ _ e i (b.measured ep) ie ii past q iq in
          turned Pnext ep _ refl
          (ap (λ (t : State). advanced M t.flags.z t w) (sym et) ∙ ap (λ (z : Bool). advanced M z (new h.x h.lanes q none_left) w) (z_flag s n d k _ _ _ none_left)
          ∙ walk-eq M refl refl refl refl refl (sym on))
          (λ e. absurd (incp_not e))

      module _ (found : e < i) {q : Predicate} (iq : q ≡ pack (spread (shift size) (λ j. eqb j e))) {bit : ℕ} (ib : bit ≡ e * 2 ^ shift size) where
        abbrev on_bit : Flags
        on_bit = record { n = eqb h.low bit; z = false; c = not (eqb h.end (bit + 1)); v = false }

        pnext_is : new h.x h.lanes q on_bit ≡ M.pnext w.state
        pnext_is = advances_to size n m d k s l g h.x h.lanes h.cursor h.flags _ _ _ e i (b.measured ep) ie ii found q bit iq ib

        -- the list has a place for it
        pub has_place : h.visited < length h.list
        has_place = room size n m d k s l g h.count w b.reached on ep (ap (λ (t : State). t.flags.z) (sym pnext_is) ∙ z_flag s n d k _ _ _ _)

        pub turn_to : {y : ℕ} → y ≡ (h.x + e) % 2 ^ 64
            → Holds (record { list = set h.list h.visited y; x = h.x; lanes = h.lanes; cursor = q; flags = on_bit; low = h.low; end = h.end; next = e + 1; phase = h.phase; ended = h.ended; visited = h.visited + 1; count = h.count + 1 })
        turn_to {y} iy =
            let place = visits size n m d k s l g h.x h.lanes h.cursor h.flags _ _ _ e i (b.measured ep) ie ii found q on_bit iq in
            turned Pnext ep _ refl
            (ap (λ (t : State). advanced M t.flags.z t w) (sym pnext_is) ∙ ap (λ (z : Bool). advanced M z (new h.x h.lanes q on_bit) w) (z_flag s n d k _ _ _ on_bit)
            ∙ walk-eq M refl (ap (set h.list h.visited) (place ∙ sym iy)) refl refl (sym ep) (sym on))
            (λ _. measured_on size n m d k s l g h.x h.lanes h.cursor h.flags _ _ _ e i (b.measured ep) ie ii found q iq)
