-- `read` meets its contract. Assumes nothing.
use native.Mathlib.Omega.{arith}
use mathlib.Core.Path.{sym}
use lib.ListN.{length-take}
use lib.Seq.{length-take-le}
use Rattle.image.specs.Sections.{or_else}
use Rattle.image.specs.Reading.{read_of, list_after}
use Rattle.image.proofs.Readings.{read_done, list_done, fill_most, fill-room}
use borrow.Author.Rules.{rules}
use Rattle.image.proofs.read.Goals as goal

pub returns-in_err-image_reply : goal.returns-in_err-image_reply
unfolding read_of list_after or_else
returns-in_err-image_reply c = record { value = search rules; words_after = search rules }

pub slice_bounds-fill-end : goal.slice_bounds-fill-end
slice_bounds-fill-end c = fill-room _ c.args.words.now _ c.image_reply.ensures c.in_ok-image_reply.was _ _ c.start_of-rest.ensures c.count_of-count.ensures.value

pub slice_bounds-fill-end-2 : goal.slice_bounds-fill-end-2
slice_bounds-fill-end-2 c =
    let r = fill-room _ c.args.words.now _ c.image_reply.ensures c.in_ok-image_reply.was _ _ c.start_of-rest.ensures c.count_of-count.ensures.value in
    sym (length-take-le c.count_of-count.result c.args.words.now r)

pub fill-requires : goal.fill-requires
fill-requires c =
    let m = fill_most _ c.args.words.now _ c.image_reply.ensures c.in_ok-image_reply.was _ _ c.start_of-rest.ensures c.count_of-count.ensures.value in
    omega (arith, length-take c.count_of-count.result c.args.words.now)

pub returns : goal.returns
returns c =
    record {
      value = search (rules, read_done) depth 9;
      words_after = list_done _ c.args.words.now _ c.image_reply.ensures c.in_ok-image_reply.was _ _ c.start_of-rest.ensures c.count_of-count.ensures.value _ _ c.after.ensures c.fill.ensures;
    }
