-- `word_line` meets its contract: the fields are the line. Assumes nothing.
use native.Mathlib.Omega.{arith}
use Rattle.report.proofs.Places.{line_refused, line_done, word-length, word_put}
use Rattle.report.proofs.word_line.Goals as goal

pub returns-then-saturating_sub-a : goal.returns-then-saturating_sub-a
returns-then-saturating_sub-a c =
    let a = c.args in
    let y = rw c.from-short.ensures at c.width-b.ensures.0 in
    let l = line_refused _ a.at a.buffer.now _ _ (word-length _ a.word _ a.flags _ _ c.width-a.ensures.0 y) c.saturating_sub.ensures c.if-saturating_sub-a.true in
    record { value = l.0; buffer_after = l.1 }

pub returns : goal.returns
returns c =
    let a = c.args in
    let x = c.width-a.ensures.0 in
    let y = rw c.from-short.ensures at c.width-b.ensures.0 in
    let f1 = c.put_field-at.ensures in
    let f2 = c.put_field-at-2.ensures in
    let f3 = c.put_field-at-3.ensures in
    let l = line_done _ a.at a.buffer.now _ _ (word-length _ a.word _ a.flags _ _ x y) c.saturating_sub.ensures _ _ (omega arith) c.if-saturating_sub-a.false (omega arith)
    (word_put _ _ _ _ _ _ x y _ _ _ _ _ _ _ _ _ _ c.from-short.ensures f1.buffer_after f1.value f2.buffer_after f2.value f3.buffer_after f3.value c.put_flags.ensures.buffer_after) in
    record { value = l.0; buffer_after = l.1 }
