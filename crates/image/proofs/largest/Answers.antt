-- `largest` meets its contract. Assumes nothing.
use mathlib.Core.Path.{sym}
use Rattle.image.proofs.Writings.{largest_is}
use Rattle.image.proofs.largest.Goals as goal

pub returns : goal.returns
returns c = sym largest_is
