-- What each instruction gives, from the values of the registers that it reads and the vector length.
use Rattle.std.specs.Prelude.{ℕ, Bool}
use Rattle.bits.specs.declared.Size.{Size}
use Rattle.predicates.specs.Predicate.{all_false}
use Rattle.tally.specs.Counts.{count_at}
use Rattle.scalars.specs.declared.Condition.{Condition}
use Rattle.words.specs.declared.Target.{Target}
use Rattle.words.specs.declared.Target.TheVariants.{One, Pair, Counter}
use Rattle.words.specs.declared.Instruction.{Instruction}
use Rattle.words.specs.declared.Instruction.TheVariants.{While, Saturating, IncDec, Cntp, CntpCounter, Pnext, Pfirst, Ptest, Pfalse, Logic, Setffr, Wrffr, Rdffr, RdffrPg, RdffrsPg}
use Rattle.instructions.specs.declared.operands.Values.{Values}
use Rattle.instructions.specs.Effect.{Effect, gives_p}
use Rattle.instructions.specs.Whiles.{while_one_of, while_pair_of}
use Rattle.instructions.specs.Counter.{while_counter_of, cntp_counter_of}
use Rattle.instructions.specs.Counts.{inc_dec_of, saturating_of, cntp_of}
use Rattle.instructions.specs.Searches.{pnext_of, pfirst_of, ptest_of}
use Rattle.instructions.specs.Logic.{logic_of}
use Rattle.instructions.specs.Ffr.{setffr_of, moved_of, rdffr_pg_of, rdffrs_pg_of}

abbrev pub while_of : Condition → Bool → Target → Size → ℕ → ℕ → ℕ → Effect
while_of c u (One sf pd) size rn rm vl = while_one_of c u sf size rn rm vl
while_of c u (Pair pd) size rn rm vl = while_pair_of c u size rn rm vl
while_of c u (Counter four pnd) size rn rm vl = while_counter_of c u four size rn rm vl

unfoldable pub compute_of : Instruction → Values → ℕ → Effect
compute_of (While c u t size rn rm) v vl = while_of c u t size v.rn v.rm vl
compute_of (Saturating d u sf size pm rdn) v vl = saturating_of d u sf v.rn (count_at size v.counts)
compute_of (IncDec d size pm rdn) v vl = inc_dec_of d v.rn (count_at size v.counts)
compute_of (Cntp size pg pn rd) v vl = cntp_of size v.pg v.pn vl
compute_of (CntpCounter four size pnn rd) v vl = cntp_counter_of four size v.pn vl
compute_of (Pnext size pv pdn) v vl = pnext_of size v.pg v.pn vl
compute_of (Pfirst pg pdn) v vl = pfirst_of v.pg v.pn vl
compute_of (Ptest pg pn) v vl = ptest_of v.pg v.pn vl
compute_of (Pfalse pd) v vl = gives_p all_false
compute_of (Logic o s pm pg pn pd) v vl = logic_of o s v.pg v.pn v.pm vl
compute_of Setffr v vl = setffr_of vl
compute_of (Wrffr pn) v vl = moved_of v.pn
compute_of (Rdffr pd) v vl = moved_of v.pn
compute_of (RdffrPg pg pd) v vl = rdffr_pg_of v.pg v.pn
compute_of (RdffrsPg pg pd) v vl = rdffrs_pg_of v.pg v.pn vl
