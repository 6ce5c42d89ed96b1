-- `State::with_p` meets its contract: FFR has no counts. Assumes nothing.
use borrow.Author.Rules.{rules}
use mathlib.Core.Path.{◌≡◌}
use native.Mathlib.Omega.{arith}
use lib.ListN.{length}
use Rattle.registers.specs.State.{with_p}
use Rattle.registers.proofs.Registers.{with_p-ffr, length_mapped}
use Rattle.registers.proofs.State.with_p.Goals as goal

pub returns-then-i-lt-COUNTED : goal.returns-then-i-lt-COUNTED
unfolding with_p
returns-then-i-lt-COUNTED c = cc

pub returns-else-i-lt-COUNTED : goal.returns-else-i-lt-COUNTED
unfolding with_p
returns-else-i-lt-COUNTED c =
    let l : length c.args.self.counts ≡ 16 = search (rules, length_mapped) in cc (with_p-ffr c.args.self c.args.r c.args.q (omega arith))
