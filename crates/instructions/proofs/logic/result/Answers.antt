-- `result` meets its contract. Assumes nothing.
use Rattle.std.proofs.Common.{rules}
use Rattle.instructions.proofs.LogicLaws.{and_words, bic_words, eor_words, sel_words, orr_words, orn_words, nor_words, nand_words}
use Rattle.instructions.proofs.logic.result.Goals as goal

pub returns-in-And : goal.returns-in-And
returns-in-And c = search (and_words, rules) depth 9

pub returns-in-Bic : goal.returns-in-Bic
returns-in-Bic c = search (bic_words, rules) depth 9

pub returns-in-Eor : goal.returns-in-Eor
returns-in-Eor c = search (eor_words, rules) depth 9

pub returns-in-Sel : goal.returns-in-Sel
returns-in-Sel c = search (sel_words, rules) depth 9

pub returns-in-Orr : goal.returns-in-Orr
returns-in-Orr c = search (orr_words, rules) depth 9

pub returns-in-Orn : goal.returns-in-Orn
returns-in-Orn c = search (orn_words, rules) depth 9

pub returns-in-Nor : goal.returns-in-Nor
returns-in-Nor c = search (nor_words, rules) depth 9

pub returns-in-Nand : goal.returns-in-Nand
returns-in-Nand c = search (nand_words, rules) depth 9
