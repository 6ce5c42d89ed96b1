-- `fold_in` meets its contract. Assumes nothing.
use mathlib.Core.Path.{sym}
use Prim.Native.Nat.{◌≤◌}
use lib.ListN.{length}
use lib.Seq.{length-take-le}
use Rattle.fold.proofs.Answers.{visited_fits, refused, done}
use Rattle.fold.proofs.fold_in.Goals as goal
use Rattle.fold.proofs.fold_in.Goals.{Then-is_ok}

-- what the walk visited has a place in the list after it
visited : (c : Then-is_ok) → c.walk-walked.result.visited ≤ length c.walk-walked.new.list
visited c =
    let w = c.walk-walked.ensures in
    visited_fits c.args.vl c.args.title.now c.args.list.now _ _ _ _ (w.answer, (w.places, w.demand)) c.is_ok.ensures.value c.if-is_ok.true

pub slice_bounds-fold_each-end : goal.slice_bounds-fold_each-end
slice_bounds-fold_each-end c = visited (goal.at.slice_bounds-fold_each-end c).Then-is_ok

pub slice_bounds-fold_each-end-then-is_ok : goal.slice_bounds-fold_each-end-then-is_ok
slice_bounds-fold_each-end-then-is_ok c = sym (length-take-le _ _ (visited (goal.at.slice_bounds-fold_each-end-then-is_ok c).Then-is_ok))

pub returns-then-is_ok-clause-units : goal.returns-then-is_ok-clause-units
returns-then-is_ok-clause-units c =
    let a = c.args in
    let w = c.walk-walked.ensures in
    (done a.vl a.title.now a.list.now _ _ _ c.title_state-state.ensures (w.answer, (w.places, w.demand)) _ _ c.is_ok.ensures.value c.if-is_ok.true c.fold_each.ensures).1.1

pub returns-else-is_ok-clause-units : goal.returns-else-is_ok-clause-units
returns-else-is_ok-clause-units c =
    let a = c.args in
    let w = c.walk-walked.ensures in
    (refused a.vl a.title.now a.list.now _ _ _ c.title_state-state.ensures (w.answer, (w.places, w.demand)) _ c.is_ok.ensures.value c.if-is_ok.false).1.1
