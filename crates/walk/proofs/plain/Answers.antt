-- `plain` meets its contract: between two turns its locals are the plain walk with the count as its budget. Assumes nothing.
use Rattle.std.specs.Prelude.{Ok}
use Rattle.std.proofs.Common.{◌≡◌, ◌<◌, ℕ, List, length, not, sym, ap, ◌∙◌, refl, subst, arith, rules}
use Rattle.bits.specs.declared.Size.{Size}
use Rattle.registers.specs.declared.State.{State}
use Rattle.registers.specs.State.{read_x, read_p, with_x, with_p}
use Rattle.words.specs.Words.{size_of}
use Rattle.walk.specs.declared.Round.{Round}
use Rattle.walk.specs.Lengths.{Typed}
use Rattle.walk.specs.Walk.{refusal_of}
use Rattle.walk.proofs.Accepted.{x_fits, Within, accepted_within}
use Rattle.walk.proofs.Loop.{as_left, bit-at, first-turn, once_ended, once_spent, answers, turn-pfalse, turn_whilelo, turn_incp, turn-past, has_place, turn_to}
use Rattle.walk.proofs.plain.Goals as goal
use Rattle.walk.proofs.plain.Goals.{Start, After-flags_at-flags, in-Pfalse, in-Whilelo, in-Pnext+then-elements-e, in-Pnext+else-elements-e, in-Incp, then-loop-count-test+else-not-ended, else-loop-count-test}

typed : (c : Start) → Typed c.args.start
typed c = record { fits = search (rules, x_fits) }

-- nothing is refused, at the size that the number names
within : (size n m d k : ℕ) (s : State) (l : List ℕ) {z : Size} → Typed s → z ≡ size_of size → refusal_of size n m d k s (length l) ≡ Ok tt → Within z n m d k s l
within size n m d k s l t e q = subst (λ (z : Size). Within z n m d k s l) (sym e) (accepted_within size n m d k s l t q)

-- the list has a place for the position that PNEXT has found
in_list : (c : After-flags_at-flags) → c.loop-count.visited < length c.loop-count.list
in_list c =
    let a = c.args in
    let g = within a.request.size a.request.n a.request.m a.request.d a.request.k a.start a.list.now (record { fits = search (rules, x_fits) }) c.size_of-size.ensures c.requires in
    let n = c.elements-elements.ensures in
    has_place g c.loop-count.invariant (ap not c.if-not-ended.true) c.loop-count-test.true c.in-Pnext.is c.next_active-e.ensures n c.if-elements-e.false c.only_element-cursor.ensures
    (bit-at a.start.vl c.size_of-size.result c.shift.ensures n c.if-elements-e.false)

pub loop-count-init : goal.loop-count-init
loop-count-init c =
    let a = c.args in
    first-turn a.budget (within a.request.size a.request.n a.request.m a.request.d a.request.k a.start a.list.now (record { fits = search (rules, x_fits) }) c.size_of-size.ensures c.requires) (c.read_x-x.ensures ∙ ap (read_x a.start) c.from-n.ensures) (c.read_p-lanes.ensures ∙ ap (read_p a.start) c.from-d.ensures)
    (c.read_p-cursor.ensures ∙ ap (read_p a.start) c.from-k.ensures)

pub offset_bounds-list-visited : goal.offset_bounds-list-visited
offset_bounds-list-visited c = record { fits = omega (arith, in_list (goal.at.offset_bounds-list-visited c).After-flags_at-flags, c.loop-count.auto.list, c.well_formed) }

pub bounds-list-visited : goal.bounds-list-visited
bounds-list-visited c = in_list (goal.at.bounds-list-visited c).After-flags_at-flags

pub overflow_add-visited : goal.overflow_add-visited
overflow_add-visited c = record { fits = omega (arith, in_list (goal.at.overflow_add-visited c).After-flags_at-flags, c.loop-count.auto.list, c.well_formed) }

pub loop-count-preserved : goal.loop-count-preserved
loop-count-preserved c =
    let a = c.args in
    let g = within a.request.size a.request.n a.request.m a.request.d a.request.k a.start a.list.now (record { fits = search (rules, x_fits) }) c.size_of-size.ensures c.requires in
    let b = c.loop-count.invariant in
    let goes = ap not c.if-not-ended.true in
    let left = c.loop-count-test.true in
    let n = c.elements-elements.ensures in
    elim c.match-phase.branch [
      | in-Pfalse w ↦ as_left w.list-is w.x-is w.lanes-is w.cursor-is w.flags-is (ap (λ (q : Round). q.low) w.round-is) (ap (λ (q : Round). q.end) w.round-is) (ap (λ (q : Round). q.next) w.round-is) w.phase-is w.ended-is w.visited-is refl
          (turn-pfalse g b goes left w.in-Pfalse.is w.none-cursor.ensures)
      | in-Whilelo w ↦ as_left w.list-is w.x-is w.lanes-is w.cursor-is w.flags-is (ap (λ (q : Round). q.low) w.round-is) (ap (λ (q : Round). q.end) w.round-is) (ap (λ (q : Round). q.next) w.round-is) w.phase-is w.ended-is w.visited-is refl
          (turn_whilelo g b goes left w.in-Whilelo.is (c.read_x-limit.ensures ∙ ap (read_x a.start) c.from.ensures) n c.live-live.ensures w.held-held.ensures w.first-lanes.ensures w.while_flags.ensures w.of-flags.ensures w.and.ensures
          (ap (λ (q : Round). q.low) w.of-round.ensures) (ap (λ (q : Round). q.end) w.of-round.ensures) w.and-in-Whilelo.ensures (ap (λ (q : Round). q.next) w.of-round.ensures))
      | in-Pnext+then-elements-e w ↦ as_left w.list-is w.x-is w.lanes-is w.cursor-is w.flags-is (ap (λ (q : Round). q.low) w.round-is) (ap (λ (q : Round). q.end) w.round-is) (ap (λ (q : Round). q.next) w.round-is) w.phase-is w.ended-is w.visited-is refl
          (turn-past g b goes left w.in-Pnext.is w.next_active-e.ensures n w.if-elements-e.true w.none-cursor-then-elements-e.ensures)
      | in-Pnext+else-elements-e w ↦ as_left w.list-is w.x-is w.lanes-is w.cursor-is (w.flags-is ∙ w.flags_at-flags.ensures) (ap (λ (q : Round). q.low) w.round-is) (ap (λ (q : Round). q.end) w.round-is) (ap (λ (q : Round). q.next) w.round-is) w.phase-is w.ended-is w.visited-is refl
          (turn_to g b goes left w.in-Pnext.is w.next_active-e.ensures n w.if-elements-e.false w.only_element-cursor.ensures
          (bit-at a.start.vl c.size_of-size.result w.shift.ensures n w.if-elements-e.false) refl)
      | in-Incp w ↦ as_left w.list-is w.x-is w.lanes-is w.cursor-is w.flags-is (ap (λ (q : Round). q.low) w.round-is) (ap (λ (q : Round). q.end) w.round-is) (ap (λ (q : Round). q.next) w.round-is) w.phase-is w.ended-is w.visited-is refl
          (turn_incp g b goes left w.in-Incp.is c.live-live.ensures w.and-in-Incp.ensures w.count-x.ensures refl)
    ]

pub returns : goal.returns
returns c =
    let a = c.args in
    let r = a.request in
    let h = c.loop-count in
    let i = h.invariant in
    let g = within r.size r.n r.m r.d r.k a.start a.list.now (typed (goal.at.returns c).Start) c.size_of-size.ensures c.requires in
    let (answer, places) =
    answers g i r.size c.size_of-size.ensures
    (elim c.loop-count-test.branch [ then-loop-count-test+else-not-ended w ↦ once_ended g i (ap not w.if-not-ended.false) | else-loop-count-test w ↦ once_spent g i w.loop-count-test.false ])
    (c.with_x.ensures ∙ ap (λ (j : ℕ). with_x a.start j h.x) c.from-n.ensures) (c.with_p.ensures ∙ ap (λ (j : ℕ). with_p c.with_x.result j h.lanes) c.from-d.ensures)
    (c.with_p-state.ensures ∙ ap (λ (j : ℕ). with_p c.with_p.result j h.cursor) c.from-k.ensures) c.with_flags.ensures c.answer.ensures in
    record { answer = answer; places = places }
