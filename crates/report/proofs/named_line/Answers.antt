-- `named_line` meets its contract: the text and the number are the line. Assumes nothing.
use native.Mathlib.Omega.{arith}
use Rattle.report.proofs.Places.{line_refused, line_done, text-length, text_put}
use Rattle.report.proofs.named_line.Goals as goal

pub returns-then-saturating_sub-a : goal.returns-then-saturating_sub-a
returns-then-saturating_sub-a c =
    let a = c.args in
    let x = c.width-a.ensures.0 in
    let l = line_refused _ a.at a.buffer.now _ _ (text-length a.name.now _ _ x) c.saturating_sub.ensures c.if-saturating_sub-a.true in
    record { value = l.0; buffer_after = l.1 }

pub returns : goal.returns
returns c =
    let a = c.args in
    let x = c.width-a.ensures.0 in
    let l = line_done _ a.at a.buffer.now _ _ (text-length a.name.now _ _ x) c.saturating_sub.ensures _ _ (omega arith) c.if-saturating_sub-a.false (omega arith)
    (text_put a.name.now _ _ x a.buffer.now _ _ a.at _ c.put_text-at.ensures.buffer_after c.put_text-at.ensures.value c.put_field.ensures.buffer_after) in
    record { value = l.0; buffer_after = l.1 }
