-- `next_active` meets its contract. The search from `next` finds what the search from `start` finds. Assumes nothing.
use Rattle.std.proofs.Common.{◌≡◌, ◌≤◌, max}
use Rattle.bits.specs.Search.{first_from}
use Rattle.bits.specs.Size.{shift}
use Rattle.predicates.specs.Predicate.{active}
use Rattle.scan.proofs.next_active.Given as goal

abbrev pub invariant-loop-next : goal.invariant-loop-next
invariant-loop-next l = record {
  reached : l.next ≤ max l.start l.elements;
  same : first_from (active (shift l.size) l.mask) l.next l.elements ≡ first_from (active (shift l.size) l.mask) l.start l.elements;
}
