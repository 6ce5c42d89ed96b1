-- `walk` meets its contract. Assumes nothing.
use Rattle.std.proofs.Common.{ap, not}
use Rattle.shared.proofs.Answers.{walk-barred, walk_taken}
use Rattle.shared.proofs.Shared.walk.Goals as goal

pub returns-then-not-may_walk-clause-answer : goal.returns-then-not-may_walk-clause-answer
returns-then-not-may_walk-clause-answer c =
    let a = c.args in
    (walk-barred a.kernel a.request.size a.request.n a.request.m a.request.d a.request.k a.budget a.self a.list.now _ _ c.state_for-state.ensures c.may_walk.ensures _ _
    (ap not c.if-not-may_walk.true) c.refusal-reply.ensures c.barred.ensures).0

pub returns-then-not-may_walk-clause-places : goal.returns-then-not-may_walk-clause-places
returns-then-not-may_walk-clause-places c =
    let a = c.args in
    (walk-barred a.kernel a.request.size a.request.n a.request.m a.request.d a.request.k a.budget a.self a.list.now _ _ c.state_for-state.ensures c.may_walk.ensures _ _
    (ap not c.if-not-may_walk.true) c.refusal-reply.ensures c.barred.ensures).1.0

pub returns-then-not-may_walk-clause-demand : goal.returns-then-not-may_walk-clause-demand
returns-then-not-may_walk-clause-demand c =
    let a = c.args in
    (walk-barred a.kernel a.request.size a.request.n a.request.m a.request.d a.request.k a.budget a.self a.list.now _ _ c.state_for-state.ensures c.may_walk.ensures _ _
    (ap not c.if-not-may_walk.true) c.refusal-reply.ensures c.barred.ensures).1.1

pub returns-clause-answer : goal.returns-clause-answer
returns-clause-answer c =
    let a = c.args in
    (walk_taken a.kernel a.request.size a.request.n a.request.m a.request.d a.request.k a.budget a.self a.list.now _ _ c.state_for-state.ensures c.may_walk.ensures _ _ _
    (ap not c.if-not-may_walk.false) (c.walk-walked.ensures.answer, (c.walk-walked.ensures.places, c.walk-walked.ensures.demand)) c.after.ensures).0

pub returns-clause-places : goal.returns-clause-places
returns-clause-places c =
    let a = c.args in
    (walk_taken a.kernel a.request.size a.request.n a.request.m a.request.d a.request.k a.budget a.self a.list.now _ _ c.state_for-state.ensures c.may_walk.ensures _ _ _
    (ap not c.if-not-may_walk.false) (c.walk-walked.ensures.answer, (c.walk-walked.ensures.places, c.walk-walked.ensures.demand)) c.after.ensures).1.0

pub returns-clause-demand : goal.returns-clause-demand
returns-clause-demand c =
    let a = c.args in
    (walk_taken a.kernel a.request.size a.request.n a.request.m a.request.d a.request.k a.budget a.self a.list.now _ _ c.state_for-state.ensures c.may_walk.ensures _ _ _
    (ap not c.if-not-may_walk.false) (c.walk-walked.ensures.answer, (c.walk-walked.ensures.places, c.walk-walked.ensures.demand)) c.after.ensures).1.1
