-- The answers as C has them: each reply by its number, all else as it is.
use Rattle.replies.specs.declared.Refusal.{Refusal}
use Rattle.replies.specs.Reply.{refusal_number, number_of}
use Rattle.std.specs.Prelude.{ℕ, Bool, List, Result, Ok, Err, ◌≡◌}
use Rattle.registers.specs.declared.State.{State}
use Rattle.registers.specs.Parts.{state_at}
use Rattle.machine.specs.Step.{step_of, run_of}
use Rattle.walk.specs.declared.Walked as Walk
use Rattle.shared.specs.declared.Stepped as Shared
use Rattle.shared.specs.declared.Walked as Shared'
use Rattle.image.specs.declared.Reading as Image
use Rattle.image.specs.Reading.{blank}
use Rattle.capi.specs.declared.Ran.{Ran}
use Rattle.capi.specs.declared.Walked.{Walked}
use Rattle.capi.specs.declared.SharedStepped.{SharedStepped}
use Rattle.capi.specs.declared.SharedWalked.{SharedWalked}
use Rattle.capi.specs.declared.Reading.{Reading}
use Rattle.capi.specs.declared.Written.{Written}

-- the third layout that C has met: with FFR after P, and counts after FFR
abbrev pub layout : ℕ
layout = 3

-- the state of these settings and lent parts
abbrev pub state_in : ℕ → ℕ → Bool → List Bool → List ℕ → List (List ℕ) → List (List ℕ) → State
state_in vl level access f x p c = state_at (record { vl = vl; level = level; access = access }) f x p c

-- a step and a run where the state stands: the answer, and the state before and after
pub record SteppedParts (answer word : ℕ) (before after : State) : Type 0 where
  pub reply : answer ≡ number_of (step_of before word).reply
  pub state : after ≡ (step_of before word).state

pub record RanParts (answer : Ran) (words : List ℕ) (before after : State) : Type 0 where
  pub reply : answer.reply ≡ number_of (run_of before words).reply
  pub refused : answer.refused ≡ number_of (run_of before words).refused
  pub done : answer.done ≡ (run_of before words).done
  pub state : after ≡ (run_of before words).state

abbrev pub walked_as : Walk.Walked → Walked
walked_as r = record { reply = number_of r.reply; count = r.count; visited = r.visited; state = r.state }

abbrev pub shared_stepped_as : Shared.Stepped → SharedStepped
shared_stepped_as r = record { reply = number_of r.reply; shared = r.shared }

abbrev pub shared_walked_as : Shared'.Walked → SharedWalked
shared_walked_as r = record { reply = number_of r.reply; count = r.count; visited = r.visited; shared = r.shared }

-- beside a refusal: no word, no byte, and a blank state
abbrev pub read_as : Result Image.Reading Refusal → Reading
read_as (Ok r) = record { reply = 0; count = r.count; state = r.state }
read_as (Err e) = record { reply = refusal_number e; count = 0; state = blank }

abbrev pub written_as : Result ℕ Refusal → Written
written_as (Ok n) = record { reply = 0; length = n }
written_as (Err e) = record { reply = refusal_number e; length = 0 }
