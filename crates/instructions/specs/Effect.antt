-- What an instruction gives: values for the registers that it writes, and flags. `registers_of` says where they go, and so whether they go anywhere:
-- what an instruction does not give is zero here.
use Rattle.std.specs.Prelude.{ℕ, false}
use Rattle.predicates.specs.declared.Flags.{Flags}
use Rattle.predicates.specs.declared.Predicate.{Predicate}
use Rattle.predicates.specs.Predicate.{all_false}
use Rattle.predicates.specs.PredTest.{nzcv, flags_of}
use Rattle.instructions.specs.declared.effect.Computed.{Computed}

pub record Effect : Type 0 where
  pub rd : ℕ
  pub pd : Predicate
  pub pd2 : Predicate
  pub flags : Flags

abbrev pub no_flags : Flags
no_flags = record { n = false; z = false; c = false; v = false }

-- a value for Rd
abbrev pub gives_x : ℕ → Effect
gives_x v = record { rd = v; pd = all_false; pd2 = all_false; flags = no_flags }

-- a predicate for Pd
abbrev pub gives_p : Predicate → Effect
gives_p q = record { rd = 0; pd = q; pd2 = all_false; flags = no_flags }

-- a predicate for Pd, and flags
abbrev pub gives_pf : Predicate → Flags → Effect
gives_pf q f = record { rd = 0; pd = q; pd2 = all_false; flags = f }

-- a pair of predicates, and flags
abbrev pub gives_ppf : Predicate → Predicate → Flags → Effect
gives_ppf q o f = record { rd = 0; pd = q; pd2 = o; flags = f }

-- flags
abbrev pub gives_f : Flags → Effect
gives_f f = record { rd = 0; pd = all_false; pd2 = all_false; flags = f }

-- an effect as the code has it: the flags are the number NZCV
abbrev pub computed : Effect → Computed
computed e = record { pd = e.pd; pd2 = e.pd2; rd = e.rd; nzcv = nzcv e.flags }

-- the effect that such a record stands for
abbrev pub effect_in : Computed → Effect
effect_in c = record { rd = c.rd; pd = c.pd; pd2 = c.pd2; flags = flags_of c.nzcv }
