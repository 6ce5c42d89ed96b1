-- `transcript` meets its contract. Assumes nothing.
use Rattle.octets.proofs.Bytes.{bytes_of, part_count}
use Rattle.transcript.proofs.Answers.{Fine, refused, whole}
use Rattle.transcript.proofs.transcript.Goals as goal
use Rattle.transcript.proofs.transcript.Goals.{In-Ok}

-- the reading, where nothing refuses it
fine : (c : In-Ok) → Fine c.args.image.now c.args.words.now c.in-Ok.reading c.read.new.words
fine c =
    let a = c.args in
    whole a.image.now a.words.now c.read.result c.read.ensures.value _ c.in-Ok.is (bytes_of a.image.now c.type_inv.image) _ c.read.ensures.words_after

pub returns-in-Err : goal.returns-in-Err
returns-in-Err c =
    let a = c.args in
    let r = refused a.image.now a.words.now c.read.result c.read.ensures.value a.out.now _ _ _ _ c.in-Err.is c.number.ensures c.image_line.ensures.value c.image_line.ensures.buffer_after in
    record { value = r.0; out_after = r.1; words_after = c.read.ensures.words_after }

pub slice_bounds-word_lines-end : goal.slice_bounds-word_lines-end
slice_bounds-word_lines-end c = (fine (goal.at.slice_bounds-word_lines-end c).In-Ok).room

pub slice_bounds-word_lines-end-in-Ok : goal.slice_bounds-word_lines-end-in-Ok
slice_bounds-word_lines-end-in-Ok c = part_count _ _ (fine (goal.at.slice_bounds-word_lines-end-in-Ok c).In-Ok).room

pub word_lines-requires : goal.word_lines-requires
word_lines-requires c = (fine (goal.at.word_lines-requires c).In-Ok).few

pub returns-in-Ok : goal.returns-in-Ok
returns-in-Ok c =
    let r = (fine (goal.at.returns-in-Ok c).In-Ok).stepped c.args.out.now _ _ c.word_lines.ensures.value c.word_lines.ensures.out_after in
    record { value = r.0; out_after = r.1; words_after = c.read.ensures.words_after }
