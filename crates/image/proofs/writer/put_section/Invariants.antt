-- `put_section` meets its contract: what is left to write is stored over what was. Assumes nothing.
use mathlib.Core.Path.{◌≡◌}
use Prim.Native.Nat.{◌+◌, ◌*◌}
use lib.ListN.{drop}
use lib.Seq.{sets}
use Rattle.octets.specs.Bytes.{joined}
use Rattle.image.proofs.writer.put_section.Given as goal

abbrev pub invariant-loop-x : goal.invariant-loop-x
invariant-loop-x g l =
    record {
      place : l.next ≡ l.at + 4 + l.x-index * l.item;
      left : sets l.image l.next (joined (g.T.Item.bytes l.item) (drop l.x-index l.items)) ≡ sets l.initial.image (l.at + 4) (joined (g.T.Item.bytes l.item) l.items);
    }
