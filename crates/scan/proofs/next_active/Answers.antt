-- `next_active` meets its contract. The search from `next` finds what the search from `start` finds. Assumes nothing.
use Rattle.std.proofs.Common.{◌≡◌, sym, ◌∙◌, arith}
use Rattle.bits.proofs.Searches.{first_end, first_hit, first_miss}
use Rattle.scan.proofs.next_active.Goals as goal

pub returns-then-is_active : goal.returns-then-is_active
returns-then-is_active c = sym (first_hit _ _ _ c.loop-next-test.true (sym c.is_active.ensures ∙ c.if-is_active.true)) ∙ c.loop-next.invariant.same

pub loop-next-preserved : goal.loop-next-preserved
loop-next-preserved c = record {
  reached = omega arith;
  same = sym (first_miss _ _ _ c.loop-next-test.true (sym c.is_active.ensures ∙ c.if-is_active.false)) ∙ c.loop-next.invariant.same;
}

pub returns : goal.returns
returns c =
    let end : c.max.result ≡ c.loop-next.next = omega arith in
    end ∙ sym (first_end _ _ _ c.loop-next-test.false) ∙ c.loop-next.invariant.same
