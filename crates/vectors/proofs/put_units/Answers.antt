-- `put_units` meets its contract. Assumes nothing.
use mathlib.Core.Path.{refl}
use Prim.Native.Nat.{◌*◌}
use Rattle.octets.proofs.Bytes.{part_lt, bytes_of}
use Rattle.vectors.proofs.put_units.Goals as goal

pub overflow_cast-unit : goal.overflow_cast-unit
overflow_cast-unit c =
    let bs = c.args.bs.now in
    record { fits = part_lt bs _ _ (c.loop-i.i * 2) 2 (bytes_of bs c.type_inv.bs) refl c.number_at.ensures }
