-- `Predicate::is_monotonic` meets its contract: in a run from bit 0 there are as many bits as the highest one tells. Assumes nothing.
use mathlib.Core.Path.{ap₂, sym, ◌∙◌}
use lib.Dec.{eqb}
use Rattle.predicates.specs.Predicate.{bit_at, monotonic}
use Rattle.predicates.proofs.Monotonic.{run-count}
use Rattle.predicates.proofs.Predicate.is_monotonic.Goals as goal

pub returns : goal.returns
unfolding monotonic
returns c = ap₂ eqb c.count.ensures c.after_highest.ensures ∙ sym (run-count (bit_at c.args.self) 256)
