-- `word_lines` meets its contract. Assumes nothing.
use mathlib.Core.Bool.{not}
use mathlib.Core.List.{List}
use mathlib.Core.Path.{◌≡◌, sym, ap, ◌∙◌}
use Rattle.report.specs.Lines.{end_line, after, placed}
use Prim.Native.Nat.{ℕ}
use native.Mathlib.Omega.{arith}
use lib.ListN.{length}
use borrow.Author.Rules.{rules}
use Rattle.registers.specs.Parts.{state_at}
use Rattle.transcript.specs.Transcript.{lines_of, after_all, placed_all}
use Rattle.transcript.proofs.Turns.{from_parts, ended, turned, stopped}
use Rattle.transcript.proofs.word_lines.Goals as goal
use Rattle.transcript.proofs.word_lines.Goals.{At-loop-done}

-- what the lines from the parts that the loop began with give, the state's lines give
whole : (h : At-loop-done) (end : ℕ) (last : List ℕ) → let a = h.args in
    let parts = lines_of (state_at h.settings-settings.result h.bits_of_flags-flags.result a.state.x h.words_of-p.result h.numbers_of-counts.result) 0 a.words.now in
    (end ≡ after_all parts 0 (length a.out.now)) × (last ≡ placed_all parts 0 a.out.now)
    → (end ≡ after_all (lines_of a.state 0 a.words.now) 0 (length a.out.now)) × (last ≡ placed_all (lines_of a.state 0 a.words.now) 0 a.out.now)
whole h end last given =
    from_parts _ _ _ _ _ _ _ last end h.settings-settings.ensures h.bits_of_flags-flags.ensures h.words_of-p.ensures h.numbers_of-counts.ensures given

pub returns-then-is_err : goal.returns-then-is_err
returns-then-is_err c =
    let r = whole (goal.at.returns-then-is_err c).At-loop-done _ _ (stopped _ _ _ _ _ _ _ c.loop-done.invariant.4 _ _ _ c.loop-done-test.true c.step-reply.ensures (sym c.is_err.ensures.negation) _ _ _ _ c.number.ensures
    c.flags_of-after.ensures c.word_line-at.ensures.value c.word_line-at.ensures.buffer_after _ _ (ap (λ b. not (not b)) c.if-is_err.true) c.end_line.ensures.value c.end_line.ensures.buffer_after) in
    record { value = r.0; out_after = r.1 }

pub loop-done-preserved : goal.loop-done-preserved
loop-done-preserved c = (
  omega arith,
  search rules,
  search rules,
  search rules,
  turned _ _ _ _ _ _ _ c.loop-done.invariant.4 _ _ _ c.loop-done-test.true c.step-reply.ensures (sym c.is_err.ensures.negation) _ _ _ _ c.number.ensures
      c.flags_of-after.ensures c.word_line-at.ensures.value c.word_line-at.ensures.buffer_after (ap (λ b. not (not b)) c.if-is_err.false),
)

pub returns : goal.returns
returns c =
    let l = c.loop-done in
    let at_end : l.done ≡ length c.args.words.now = omega arith in
    let r = whole (goal.at.returns c).At-loop-done _ _ (ended _ _ _ _ _ _ _ l.invariant.4 _ _ (omega arith)
    (c.end_line-2.ensures.value ∙ ap (λ n. after (end_line n) l.at (length l.out)) (sym at_end)) (c.end_line-2.ensures.buffer_after ∙ ap (λ n. placed (end_line n) l.at l.out) (sym at_end))) in
    record { value = r.0; out_after = r.1 }
