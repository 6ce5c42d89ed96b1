-- `walk` meets its contract: what `plain` answers once nothing is refused, and demand 3 of it. Assumes nothing.
use Rattle.std.proofs.Common.{rules, sym, ◌∙◌}
use Rattle.walk.proofs.Accepted.{x_fits}
use Rattle.walk.proofs.Answered.{refused, accepted}
use Rattle.walk.proofs.walk.Goals as goal

pub returns-in-Err : goal.returns-in-Err
returns-in-Err c =
    let a = c.args in
    let r = a.request in
    let (answer, (places, demand)) = refused r.size r.n r.m r.d r.k a.budget a.state a.list.now c.refusal.ensures c.in-Err.is in
    record { answer = answer; places = places; demand = demand }

pub returns : goal.returns
returns c =
    let a = c.args in
    let r = a.request in
    let plain = c.plain.ensures in
    let (answer, (places, demand)) =
    accepted r.size r.n r.m r.d r.k a.budget a.state a.list.now plain.answer plain.places (record { fits = search (rules, x_fits) }) (sym c.refusal.ensures ∙ c.in_default.is) in
    record { answer = answer; places = places; demand = demand }
