-- The first-fault register: SETFFR, WRFFR and RDFFR.
use Rattle.std.specs.Prelude.{ℕ, Bool, true, ◌&&◌, nat_lt}
use Rattle.bits.specs.declared.Size.TheVariants as Sz
use Rattle.predicates.specs.declared.Predicate.{Predicate}
use Rattle.predicates.specs.Predicate.{bit_at, pack, active, elements, predicate_length, monotonic}
use Rattle.predicates.specs.PredTest.{pred_test}
use Rattle.words.specs.declared.Instruction.{Instruction}
use Rattle.words.specs.declared.Instruction.TheVariants.{While, Saturating, IncDec, Cntp, CntpCounter, Pnext, Pfirst, Ptest, Pfalse, Logic, Setffr, Wrffr, Rdffr, RdffrPg, RdffrsPg}
use Rattle.instructions.specs.declared.operands.Values.{Values}
use Rattle.instructions.specs.Effect.{Effect, gives_p, gives_pf}

-- SETFFR: all PL bits true
unfoldable pub setffr_of : ℕ → Effect
setffr_of vl = gives_p (pack (λ b. nat_lt b (predicate_length vl)))

-- WRFFR and RDFFR: the predicate as it is
abbrev pub moved_of : Predicate → Effect
moved_of q = gives_p q

-- RDFFR under Pg: FFR and Pg
unfoldable pub under_mask : Predicate → Predicate → Predicate
under_mask pg ffr = pack (λ b. bit_at pg b && bit_at ffr b)

abbrev pub rdffr_pg_of : Predicate → Predicate → Effect
rdffr_pg_of pg ffr = gives_p (under_mask pg ffr)

-- RDFFRS: the flags are those of the result under Pg, over bytes
unfoldable pub rdffrs_pg_of : Predicate → Predicate → ℕ → Effect
rdffrs_pg_of pg ffr vl =
    let result = under_mask pg ffr in
    gives_pf result (pred_test (active 0 pg) (active 0 result) (elements vl Sz.B))

-- WRFFR takes a run of ones from bit 0 alone: any other is refused. All other instructions take any value.
abbrev pub accepts : Instruction → Values → Bool
accepts (While c u t size rn rm) v = true
accepts (Saturating d u sf size pm rdn) v = true
accepts (IncDec d size pm rdn) v = true
accepts (Cntp size pg pn rd) v = true
accepts (CntpCounter four size pnn rd) v = true
accepts (Pnext size pv pdn) v = true
accepts (Pfirst pg pdn) v = true
accepts (Ptest pg pn) v = true
accepts (Pfalse pd) v = true
accepts (Logic o s pm pg pn pd) v = true
accepts Setffr v = true
accepts (Wrffr pn) v = monotonic v.pn
accepts (Rdffr pd) v = true
accepts (RdffrPg pg pd) v = true
accepts (RdffrsPg pg pd) v = true
