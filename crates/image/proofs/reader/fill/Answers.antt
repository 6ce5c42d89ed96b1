-- `fill` meets its contract: what is left to read is stored over what was. Assumes nothing.
use mathlib.Core.Path.{◌≡◌, refl, sym, ap, ◌∙◌}
use Prim.Native.Nat.{ℕ, ◌*◌}
use native.Mathlib.Omega.{arith}
use lib.ListN.{length, set, length-set}
use Rattle.octets.specs.Bytes.{value, parts}
use Rattle.octets.proofs.Bytes.{part_lt, bytes_of, length-parts, sets_all, turn, turn_start, turn_end}
use Rattle.image.proofs.reader.fill.Goals as goal

pub overflow_cast-word : goal.overflow_cast-word
overflow_cast-word c =
    let bs = c.args.content.now in
    record { fits = part_lt bs _ _ (c.loop-i.i * 4) 4 (bytes_of bs c.type_inv.content) refl c.number_at.ensures }

pub loop-i-init : goal.loop-i-init
loop-i-init c = turn_start value 4 _ _ _ ∙ sets_all _ _ (length c.args.list.now) refl (length-parts value 4 _ _)

pub loop-i-preserved : goal.loop-i-preserved
loop-i-preserved c =
    let n : length (set c.loop-i.list c.loop-i.i c.number_at.result) ≡ length c.loop-i.list = length-set _ _ _ in
    rw n (turn value 4 c.loop-i.list _ (length c.loop-i.list) _ _ (omega (arith, c.loop-i.auto.list)) c.number_at.ensures ∙ c.loop-i.invariant)

pub returns : goal.returns
returns c = sym (turn_end value 4 _ _ _ _ (omega (arith, c.loop-i.auto.list))) ∙ c.loop-i.invariant ∙ ap (λ (n : ℕ). parts value 4 n c.args.content.now) c.loop-i.auto.list
