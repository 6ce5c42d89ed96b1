-- `words::write::encode` meets its contract: an instruction is written as its row is.
use mathlib.Core.Path.{ap, ◌∙◌}
use Rattle.words.specs.Rows.{encoded_as}
use Rattle.words.proofs.Rows.{row_encoded}
use Rattle.words.proofs.write.encode.Goals as goal

pub returns : goal.returns
returns c = c.word_of.ensures ∙ ap encoded_as c.row_of.ensures ∙ row_encoded c.args.i
