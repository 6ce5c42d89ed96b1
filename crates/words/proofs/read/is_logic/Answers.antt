-- `words::read::is_logic` meets its contract: the operation and S are such that logic has a word, and the fixed bits are its.
use Rattle.std.proofs.Common.{refl, ap₂, ◌∙◌, Bool, ◌&&◌}
use Rattle.words.specs.Words.{logic_form, logic_has_word}
use Rattle.words.proofs.Masks.{masked}
use Rattle.words.proofs.read.is_logic.Goals as goal

pub returns : goal.returns
returns c =
    ap₂ (λ (a b : Bool). a && b) (c.logic_has_word.ensures ∙ ap₂ logic_has_word c.operation_bits.ensures c.flag.ensures)
    (c.has_bits.ensures ∙ masked logic_form.layout c.args.w refl)
