-- A step and a walk of one of two kernels, as C has them. Assumes nothing.
use Rattle.replies.specs.Reply.{number_of}
use Rattle.std.specs.Prelude.{Ok}
use mathlib.Core.Bool.{Bool}
use mathlib.Core.List.{List}
use mathlib.Core.Path.{◌≡◌, ap, ◌∙◌, subst}
use Prim.Native.Nat.{ℕ}
use lib.ListN.{length}
use Rattle.words.specs.Words.{size_of}
use Rattle.walk.specs.Demand.{Demand3}
use Rattle.shared.specs.declared.Kernel.{Kernel}
use Rattle.shared.specs.declared.Shared.{Shared}
use Rattle.shared.specs.declared.Stepped as Step
use Rattle.shared.specs.declared.Walked as Walk
use Rattle.shared.specs.Shared.{kernel_of, state_for, step_of, refusal_of, walk_of, list_of, walked_by}
use Rattle.shared.proofs.Answers.{Answers}
use Rattle.capi.specs.declared.SharedWalked.{SharedWalked}
use Rattle.capi.specs.Answers.{shared_stepped_as, shared_walked_as}

-- the kernel that a bool names, and the reply's number
pub stepped : (s : Shared) (second : Bool) (w number : ℕ) (who : Kernel) (r : Step.Stepped) → who ≡ kernel_of second → r ≡ step_of who s w → number ≡ number_of r.reply
    → record { reply = number; shared = r.shared } ≡ shared_stepped_as (step_of (kernel_of second) s w)
stepped s second w number who r ek er en =
    ap (λ (x : ℕ). record { reply = x; shared = r.shared }) en ∙ ap shared_stepped_as (er ∙ ap (λ (x : Kernel). step_of x s w) ek)

module _ (size n m d k budget : ℕ) (s : Shared) (second : Bool) (l : List ℕ) where
  -- what `plokamyr_shared_walk` ensures
  abbrev pub Ensured : Kernel → List ℕ → SharedWalked → Type 0
  Ensured who after r =
      (r ≡ shared_walked_as (walk_of who size n m d k budget s l)) ×
      ((after ≡ list_of who size n m d k budget s l) × (refusal_of who size n m d k s (length l) ≡ Ok tt
      → Demand3 (size_of size) n m d k budget (state_for who s) l after (walked_by who (walk_of who size n m d k budget s l))))

  pub walked : (after : List ℕ) (number : ℕ) (who : Kernel) (r : Walk.Walked) → who ≡ kernel_of second → Answers who size n m d k budget s l after r → number ≡ number_of r.reply
      → Ensured (kernel_of second) after (record { reply = number; count = r.count; visited = r.visited; shared = r.shared })
  walked after number who r ek a en =
      subst (λ (x : Kernel). Ensured x after (record { reply = number; count = r.count; visited = r.visited; shared = r.shared })) ek (
        ap (λ (x : ℕ). record { reply = x; count = r.count; visited = r.visited; shared = r.shared }) en ∙ ap shared_walked_as a.0,
        (a.1.0, λ e. subst (λ (x : Walk.Walked). Demand3 (size_of size) n m d k budget (state_for who s) l after (walked_by who x)) a.0 (a.1.1 e)),
      )
