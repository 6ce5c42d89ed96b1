-- `words::write::word_of` meets its contract: number by number, what is placed and what is left make up the row's word.
use Rattle.std.proofs.Common.{◌≡◌, ◌+◌, ◌*◌, ◌≤◌, ◌^◌, length, drop}
use Rattle.words.specs.Layout.{fits, place}
use Rattle.words.specs.Words.{form_at}
use Rattle.words.specs.Rows.{row_layout}
use Rattle.words.proofs.Placing.{sum, within, Small}
use Rattle.words.proofs.write.word_of.Given as goal

abbrev pub invariant-loop-x : goal.invariant-loop-x
invariant-loop-x l =
    let xs = l.x-iterator.a.rest.now in
    let fs = l.x-iterator.b.rest.now in
    record {
      as_many : length fs ≡ length xs;
      small : Small fs;
      room : l.word + length xs * 2 ^ 40 ≤ 2 ^ 32 + 8 * 2 ^ 40;
      placed : l.word + sum fs xs ≡ place (row_layout (form_at l.form)) (drop 1 l.fn.row);
      fitting : within fs xs ≡ fits (row_layout (form_at l.form)) (drop 1 l.fn.row);
    }
