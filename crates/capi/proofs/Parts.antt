-- The answers of a step and of a run, by their numbers. Assumes nothing.
use Rattle.replies.specs.Reply.{Reply, number_of}
use mathlib.Core.List.{List}
use mathlib.Core.Path.{◌≡◌, ap, ◌∙◌}
use Prim.Native.Nat.{ℕ}
use Rattle.registers.specs.declared.State.{State}
use Rattle.machine.specs.declared.Ran as Machine
use Rattle.machine.specs.declared.Stepped.{Stepped}
use Rattle.machine.specs.Step.{answered, step_of, run_of}
use Rattle.capi.specs.Answers.{SteppedParts, RanParts}

pub stepped : (w n : ℕ) (r : Reply) (s t : State) → answered r t ≡ step_of s w → n ≡ number_of r → SteppedParts n w s t
stepped w n r s t e hn = record { reply = hn ∙ ap (λ (u : Stepped). number_of u.reply) e; state = ap (λ (u : Stepped). u.state) e }

pub ran : (ws : List ℕ) (n m done : ℕ) (r q : Reply) (s t : State) → record { reply = r; refused = q; done = done; state = t } ≡ run_of s ws → n ≡ number_of r → m ≡ number_of q
    → RanParts (record { reply = n; refused = m; done = done }) ws s t
ran ws n m done r q s t e hn hm =
    record {
      reply = hn ∙ ap (λ (u : Machine.Ran). number_of u.reply) e;
      refused = hm ∙ ap (λ (u : Machine.Ran). number_of u.refused) e;
      done = ap (λ (u : Machine.Ran). u.done) e;
      state = ap (λ (u : Machine.Ran). u.state) e;
    }
