-- `write` meets its contract. Assumes nothing.
use mathlib.Core.Bool.{true, not}
use mathlib.Core.Path.{◌≡◌, sym, ap, ◌∙◌}
use native.Mathlib.Omega.{arith}
use lib.ListN.{length}
use Rattle.replies.specs.declared.Refusal.TheVariants as R
use Rattle.registers.specs.Legal.{legal}
use Rattle.registers.proofs.Registers.{Sized, length_mapped}
use Rattle.image.specs.Image.{image_of}
use Rattle.image.proofs.Writings.{legal-vl, image_length_lem, lawful, reply_small, answer-refused, answer_done}
use borrow.Author.Rules.{rules}
use Rattle.image.proofs.write.Goals as goal
use Rattle.image.proofs.write.Goals.{After-image_length-length, Else-not-is_legal, Start}

ok : (c : Start) → Sized c.args.state
ok c = record { xs = search rules; ps = search (rules, length_mapped); cs = search (rules, length_mapped) }

is_lawful : (c : Else-not-is_legal) → legal c.args.state ≡ true
is_lawful c = lawful _ _ c.is_legal.ensures (ap not c.if-not-is_legal.false)

long : (c : After-image_length-length) (s : Sized c.args.state) → c.image_length-length.result ≡ length (image_of c.args.state c.args.words.now)
long c s = c.image_length-length.ensures ∙ sym (image_length_lem c.args.state s c.args.words.now)

pub image_length-length-requires : goal.image_length-length-requires
image_length-length-requires c = (legal-vl _ (is_lawful (goal.at.image_length-length-requires c).Else-not-is_legal), omega arith)

pub returns-then-image-length : goal.returns-then-image-length
returns-then-image-length c =
    let a = c.args in
    let p = goal.at.returns-then-image-length c in
    let n = long p.After-image_length-length (ok p.Start) in
    let r = answer-refused a.state a.words.now a.image.now R.BufferTooSmall (reply_small _ _ _ (is_lawful p.Else-not-is_legal) (omega (arith, c.if-words-gt4096.false)) (omega arith)) in
    record { value = r.0; image_after = r.1 }

pub put_image-requires : goal.put_image-requires
put_image-requires c =
    let p = goal.at.put_image-requires c in
    let n = long p.After-image_length-length (ok p.Start) in
    (is_lawful p.Else-not-is_legal, (omega arith, omega arith))

pub returns : goal.returns
returns c =
    let a = c.args in
    let p = goal.at.returns c in
    let r = answer_done a.state a.words.now a.image.now _ _ (is_lawful p.Else-not-is_legal) (omega (arith, c.if-words-gt4096.false)) c.if-image-length.false (long p.After-image_length-length (ok p.Start)) c.put_image.ensures in
    record { value = r.0; image_after = r.1 }
