-- `main` is safe: the bytes written lie within the buffer. Assumes nothing.
use Prim.Native.Nat.{◌≤◌}
use lib.ListN.{length}
use Rattle.octets.proofs.Bytes.{part_count}
use Rattle.transcript.proofs.Puts.{written-within}
use Rattle.plokamyr.proofs.main.Goals as goal
use Rattle.plokamyr.proofs.main.Goals.{After-transcript-written}

-- what was written lies within the buffer
within : (c : After-transcript-written) → c.transcript-written.result ≤ length c.transcript-written.new.out
within c = written-within _ _ _ _ c.transcript-written.ensures.value c.transcript-written.ensures.out_after

pub slice_bounds-out-end : goal.slice_bounds-out-end
slice_bounds-out-end c = within (goal.at.slice_bounds-out-end c).After-transcript-written

pub slice_bounds-write_all-end : goal.slice_bounds-write_all-end
slice_bounds-write_all-end c = part_count _ _ (within (goal.at.slice_bounds-write_all-end c).After-transcript-written)
