-- `Counts::of` meets its contract: under the vector's elements no bit is left at or above PL. Assumes nothing.
use mathlib.Core.Bool.{true, false}
use mathlib.Core.Path.{sym}
use native.Mathlib.Omega.{arith}
use borrow.Author.Tests.{le-leb, lt-leb}
use Rattle.tally.proofs.Within.{counted_is}
use Rattle.tally.proofs.Counts.of.Goals as goal

pub returns-then-pl-le64 : goal.returns-then-pl-le64
returns-then-pl-le64 c =
    counted_is _ _ _ _ _ _ true _ _ c.predicate_length-pl.ensures (omega arith) (sym (le-leb _ 64 c.if-pl-le64.true)) c.live.ensures c.and-q.ensures c.first_planes.ensures c.tally_in.ensures c.counts_in.ensures

pub returns : goal.returns
returns c =
    counted_is _ _ _ _ _ _ false _ _ c.predicate_length-pl.ensures (omega arith) (sym (lt-leb _ 64 c.if-pl-le64.false)) c.live.ensures c.and-q.ensures c.planes_of.ensures c.tally_in-2.ensures c.counts_in-2.ensures
