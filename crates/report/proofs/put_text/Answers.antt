-- `put_text` meets its contract. Assumes nothing.
use mathlib.Core.Path.{◌≡◌, refl, sym, ◌∙◌}
use native.Mathlib.Omega.{arith}
use lib.ListN.{length}
use lib.Seq.{paste, sets, sets-eq, take-length}
use Rattle.std.proofs.lemmas.Slice.{put_mid-paste}
use Rattle.report.proofs.put_text.Goals as goal

pub returns : goal.returns
returns c =
    let a = c.args in
    let l = a.buffer.now in
    let t = a.text.now in
    let p : paste l a.at t (length t) ≡ sets l a.at t = rw take-length (sym (sets-eq t l a.at (omega arith))) in
    record { value = refl; buffer_after = put_mid-paste _ _ _ _ t (length t) c.copy_from_slice.ensures.after (omega arith) refl ∙ p }
