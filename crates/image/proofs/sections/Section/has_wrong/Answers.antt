-- `has_wrong` meets its contract. Assumes nothing.
use Rattle.std.proofs.Common.{refl, ◌∙◌, not, get_or, rules, tests}
use native.Mathlib.Nat.{sub-zero}
use Rattle.std.proofs.lemmas.Iterator.{YieldsList-from_range}
use Rattle.std.proofs.lemmas.Iterator.Search.{any_from_yields_List}
use Rattle.image.specs.Sections.{sections, section_at, place_of}
use Rattle.image.proofs.SectionLaws.{any_some}
use Rattle.image.proofs.sections.Section.has_wrong.Goals as goal

pub returns : goal.returns
returns c =
    let a = c.args in
    let s = section_at (sections a.vl) (place_of a.self) in
    any_from_yields_List (λ i. not (s.allowed i (get_or a.content.now i 0))) _ _ _ c.any.ensures.ran (YieldsList-from_range 0 a.n a.n refl (sub-zero a.n)) (λ x b q k. search (rules, tests))
    ∙ any_some _ a.n
