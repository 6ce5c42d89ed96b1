-- `fold` meets its contract. Assumes nothing.
use native.Mathlib.Omega.{arith}
use Rattle.fold.proofs.Answers.{short_list, long_list}
use Rattle.fold.proofs.fold.Goals as goal

pub returns-then-title-le-SHORT : goal.returns-then-title-le-SHORT
returns-then-title-le-SHORT c =
    let f = c.fold_listed.ensures in
    let (answer, (units, table)) = short_list c.args.vl 64 c.args.title.now _ _ (omega arith) c.if-title-le-SHORT.true f.answer f.units in
    record { answer = answer; units = units; table = table }

pub returns-else-title-le-SHORT : goal.returns-else-title-le-SHORT
returns-else-title-le-SHORT c =
    let f = c.fold_listed-else-title-le-SHORT.ensures in
    let (answer, (units, table)) = long_list c.args.vl c.args.title.now _ _ f.answer f.units in
    record { answer = answer; units = units; table = table }
