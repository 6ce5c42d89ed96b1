-- `Run::flags` meets its contract. Assumes nothing.
use Rattle.std.proofs.Common.{◌≡◌, ℕ, ◌≤◌, Bool, true, false, sym, ap, ◌∙◌, arith}
use Rattle.predicates.specs.PredTest.{nzcv}
use Rattle.instructions.specs.Whiles.{span_flags}
use Rattle.instructions.proofs.WhileLaws.{count_flags, span_flags_lem}
use Rattle.instructions.proofs.whiles.Run.flags.Goals as goal

-- the flags of the count, for a way of counting
told : (up t : Bool) (c n : ℕ) → c ≤ n → up ≡ t → nzcv (count_flags t c n) ≡ nzcv (span_flags up c n)
told up t c n h is = ap nzcv (sym (ap (λ (x : Bool). count_flags x c n) is) ∙ sym (span_flags_lem up c n c (omega arith)))

pub returns-then-self : goal.returns-then-self
returns-then-self c = c.nzcv.ensures ∙ told c.args.self.up true c.args.self.held c.args.self.n c.args.self.within c.if-self.true

pub returns : goal.returns
returns c = c.nzcv-2.ensures ∙ told c.args.self.up false c.args.self.held c.args.self.n c.args.self.within c.if-self.false
