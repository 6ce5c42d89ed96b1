-- `put_section` meets its contract: what is left to write is stored over what was. Assumes nothing.
use mathlib.Core.Path.{refl, sym, ◌∙◌}
use Prim.Native.Nat.{ℕ, ◌+◌, ◌*◌, ◌<◌, ◌≤◌}
use native.Mathlib.Nat.{suc-mul, mul-le-mul_right}
use native.Mathlib.Omega.{arith}
use lib.ListN.{length}
use Rattle.octets.specs.Bytes.{le}
use Rattle.image.proofs.PredicateBytes.{put_part}
use Rattle.image.proofs.Writings.{section_start, item_turn, item_end}
use Rattle.image.proofs.writer.put_section.Goals as goal

within : (i n k : ℕ) → i < n → i * k + k ≤ n * k
within i n k h = rw suc-mul at (mul-le-mul_right k h)

pub loop-x-preserved : goal.loop-x-preserved
loop-x-preserved g c =
    let a = c.args in
    let x = c.x-item.result in
    let w = within c.loop-x.x-index (length a.items.now) a.item c.loop-x-test.true in
    let s = put_part (λ k. le k (length a.items.now)) a.image.now c.put.new.slice a.at _ 4 (omega arith) (omega arith) c.put.ensures c.put.auto.slice in
    let e = put_part (λ k. g.T.Item.bytes k x) c.loop-x.image c.put-in-loop-x.new.slice c.loop-x.next _ a.item (omega arith) (omega (arith, s.2)) c.put-in-loop-x.ensures c.put-in-loop-x.auto.slice in
    record { place = omega arith; left = item_turn (g.T.Item.bytes a.item) _ _ _ _ _ _ x c.loop-x-test.true c.x-item.is e.0 e.1 ∙ c.loop-x.invariant.left }

pub returns-clause-image_after : goal.returns-clause-image_after
returns-clause-image_after g c =
    let a = c.args in
    let s = put_part (λ k. le k (length a.items.now)) a.image.now c.put.new.slice a.at _ 4 (omega arith) (omega arith) c.put.ensures c.put.auto.slice in
    sym (item_end (g.T.Item.bytes a.item) _ _ _ _ c.loop-x-test.false) ∙ c.loop-x.invariant.left ∙ section_start (g.T.Item.bytes a.item) _ _ _ _ a.items.now s.0 refl
