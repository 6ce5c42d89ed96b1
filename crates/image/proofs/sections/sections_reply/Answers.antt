-- `sections_reply` meets its contract: the reply is that of the sections that are left. Assumes nothing.
use Rattle.std.specs.Prelude.{◌≡◌, Err}
use borrow.Author.Rules.{rules}
use Rattle.image.proofs.SectionLaws.{place_at, refused_here, passed_on, reply_left, bytes_left, no_bytes_left}
use Rattle.image.proofs.sections.sections_reply.Goals as goal

pub returns-in_err-reply : goal.returns-in_err-reply
returns-in_err-reply c =
    let e : c.from_residual.result ≡ Err c.in_err-reply.field-0.0 = search rules in
    reply_left _ _ _ _ _ c.vector_length-vl.ensures.value c.loop-section.invariant
    (refused_here _ _ c.loop-section-test.true _ _ _ _ _ (place_at _ _ c.loop-section-test.true) c.reply.ensures c.in_err-reply.was e)

pub loop-section-preserved : goal.loop-section-preserved
loop-section-preserved c =
    passed_on _ _ c.loop-section-test.true _ _ _ _ _ (place_at _ _ c.loop-section-test.true) c.reply.ensures c.in_ok-reply.was c.after-rest.ensures c.loop-section.invariant

pub returns-then-rest-gt0 : goal.returns-then-rest-gt0
returns-then-rest-gt0 c = search (rules, reply_left, bytes_left) depth 9

pub returns : goal.returns
returns c = search (rules, reply_left, no_bytes_left) depth 9
