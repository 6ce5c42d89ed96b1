-- The registers that an instruction reads and writes.
use Rattle.std.specs.Prelude.{ℕ, ◌+◌, ◌*◌, true, false}
use Rattle.registers.specs.State.{ffr}
use Rattle.words.specs.declared.Target.{Target}
use Rattle.words.specs.declared.Target.TheVariants.{One, Pair, Counter}
use Rattle.words.specs.declared.Instruction.{Instruction}
use Rattle.words.specs.declared.Instruction.TheVariants.{While, Saturating, IncDec, Cntp, CntpCounter, Pnext, Pfirst, Ptest, Pfalse, Logic, Setffr, Wrffr, Rdffr, RdffrPg, RdffrsPg}
use Rattle.instructions.specs.declared.operands.Registers.{Registers}

-- no register: a number past all of them, which reads as zero or all false, and where a write vanishes
abbrev pub none : ℕ
none = 255

-- a predicate, the pair P(2 Pd) and P(2 Pd + 1), or the counter P(8 + PNd)
abbrev pub target_of : Target → ℕ
target_of (One sf pd) = pd
target_of (Pair pd) = 2 * pd
target_of (Counter four pnd) = 8 + pnd

abbrev pub second_target_of : Target → ℕ
second_target_of (One sf pd) = none
second_target_of (Pair pd) = 2 * pd + 1
second_target_of (Counter four pnd) = none

-- read: Rn, Rm; Pg (PNEXT's Pv too), Pn (a Pdn too, and FFR where it is read), Pm with the counts beside it. Written: Rd, Pd (or FFR), the second of a pair, and whether the flags are:
-- PFALSE, logic without S, everything that writes X, and of the forms on FFR all but RDFFRS keep them
abbrev pub registers_of : Instruction → Registers
registers_of (While c u t size rn rm) = record { rn = rn; rm = rm; pg = none; pn = none; pm = none; rd = none; pd = target_of t; pd2 = second_target_of t; flags = true }
registers_of (Saturating d u sf size pm rdn) = record { rn = rdn; rm = none; pg = none; pn = none; pm = pm; rd = rdn; pd = none; pd2 = none; flags = false }
registers_of (IncDec d size pm rdn) = record { rn = rdn; rm = none; pg = none; pn = none; pm = pm; rd = rdn; pd = none; pd2 = none; flags = false }
registers_of (Cntp size pg pn rd) = record { rn = none; rm = none; pg = pg; pn = pn; pm = none; rd = rd; pd = none; pd2 = none; flags = false }
registers_of (CntpCounter four size pnn rd) = record { rn = none; rm = none; pg = none; pn = pnn; pm = none; rd = rd; pd = none; pd2 = none; flags = false }
registers_of (Pnext size pv pdn) = record { rn = none; rm = none; pg = pv; pn = pdn; pm = none; rd = none; pd = pdn; pd2 = none; flags = true }
registers_of (Pfirst pg pdn) = record { rn = none; rm = none; pg = pg; pn = pdn; pm = none; rd = none; pd = pdn; pd2 = none; flags = true }
registers_of (Ptest pg pn) = record { rn = none; rm = none; pg = pg; pn = pn; pm = none; rd = none; pd = none; pd2 = none; flags = true }
registers_of (Pfalse pd) = record { rn = none; rm = none; pg = none; pn = none; pm = none; rd = none; pd = pd; pd2 = none; flags = false }
registers_of (Logic o s pm pg pn pd) = record { rn = none; rm = none; pg = pg; pn = pn; pm = pm; rd = none; pd = pd; pd2 = none; flags = s }
registers_of Setffr = record { rn = none; rm = none; pg = none; pn = none; pm = none; rd = none; pd = ffr; pd2 = none; flags = false }
registers_of (Wrffr pn) = record { rn = none; rm = none; pg = none; pn = pn; pm = none; rd = none; pd = ffr; pd2 = none; flags = false }
registers_of (Rdffr pd) = record { rn = none; rm = none; pg = none; pn = ffr; pm = none; rd = none; pd = pd; pd2 = none; flags = false }
registers_of (RdffrPg pg pd) = record { rn = none; rm = none; pg = pg; pn = ffr; pm = none; rd = none; pd = pd; pd2 = none; flags = false }
registers_of (RdffrsPg pg pd) = record { rn = none; rm = none; pg = pg; pn = ffr; pm = none; rd = none; pd = pd; pd2 = none; flags = true }
