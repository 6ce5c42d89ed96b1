-- `title_state` meets its contract. Assumes nothing.
use Rattle.fold.proofs.Start.{start_made}
use Rattle.fold.proofs.title_state.Goals as goal

pub returns : goal.returns
returns c = start_made _ _ _ _ _ _ _ c.of.ensures c.none.ensures c.none-2.ensures
