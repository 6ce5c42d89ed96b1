-- An instruction is written as its row is.
use mathlib.Core.Path.{◌≡◌, refl}
use Rattle.words.specs.Layout.{fits}
use Rattle.words.specs.Words.{encode_of}
use Rattle.words.specs.Rows.{row_of, encoded_as}
use Rattle.words.specs.declared.Target.TheVariants.{One, Pair, Counter}
use Rattle.words.specs.declared.Instruction.{Instruction}
use Rattle.words.specs.declared.Instruction.TheVariants.{While, Saturating, IncDec, Cntp, CntpCounter, Pnext, Pfirst, Ptest, Pfalse, Logic, Setffr, Wrffr, Rdffr, RdffrPg, RdffrsPg}

-- an instruction is written as its row is
pub row_encoded : (i : Instruction) → encoded_as (row_of i) ≡ encode_of i
unfolding encode_of fits
row_encoded (While c u (One w pd) s rn rm) = refl
row_encoded (While c u (Pair pd) s rn rm) = refl
row_encoded (While c u (Counter f pnd) s rn rm) = refl
row_encoded (Saturating d u w s pm rdn) = refl
row_encoded (IncDec d s pm rdn) = refl
row_encoded (Cntp s pg pn rd) = refl
row_encoded (CntpCounter f s pnn rd) = refl
row_encoded (Pnext s pv pdn) = refl
row_encoded (Pfirst pg pdn) = refl
row_encoded (Ptest pg pn) = refl
row_encoded (Pfalse pd) = refl
row_encoded (Logic o s pm pg pn pd) = refl
row_encoded Setffr = refl
row_encoded (Wrffr pn) = refl
row_encoded (Rdffr pd) = refl
row_encoded (RdffrPg pg pd) = refl
row_encoded (RdffrsPg pg pd) = refl
