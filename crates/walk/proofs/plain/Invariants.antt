-- `plain` meets its contract: between two turns its locals are the plain walk with the count as its budget. Assumes nothing.
use Rattle.std.proofs.Common.{◌-◌}
use Rattle.walk.proofs.Loop.{Between}
use Rattle.walk.proofs.plain.Given as goal

abbrev pub invariant-loop-count : goal.invariant-loop-count
invariant-loop-count l =
    Between l.size l.fn.request.n l.fn.request.m l.fn.request.d l.fn.request.k l.budget l.start l.initial.list
    (record { list = l.list; x = l.x; lanes = l.lanes; cursor = l.cursor; flags = l.flags; low = l.round.low; end = l.round.end; next = l.round.next; phase = l.phase; ended = l.ended; visited = l.visited; count = l.count })

abbrev pub decreases-loop-count : goal.decreases-loop-count
decreases-loop-count l = l.budget - l.count
