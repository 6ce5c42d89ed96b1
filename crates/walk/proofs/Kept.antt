-- A walk leaves a legal state legal, counts included, finished, spent or refused. Assumes nothing.
use Rattle.replies.specs.Reply.{Reply, is_done}
use Rattle.std.specs.Prelude.{Ok, Err}
use Rattle.std.proofs.Common.{◌≡◌, ℕ, true, List, length, refl, ap, ◌∙◌}
use Rattle.bits.specs.declared.Size.{Size}
use Rattle.registers.specs.declared.State.{State}
use Rattle.registers.specs.Legal.{legal}
use Rattle.registers.specs.State.{counted}
use Rattle.registers.proofs.Legality.{legal-counted}
use Rattle.words.specs.declared.Instruction.{Instruction}
use Rattle.words.specs.Words.{size_of}
use Rattle.machine.specs.Execute.{execute_of}
use Rattle.machine.proofs.Kept.{execute-legal}
use Rattle.walk.specs.declared.Walked.{Walked}
use Rattle.walk.specs.Plain.{begin}
use Rattle.walk.specs.Walk.{instructions_of, plain_walk, refusal_of, walk_of}
use Rattle.walk.proofs.Related.{run_keeps}
use Rattle.walk.proofs.Answered.{answer_accepted, answer-refused}

module _ (size : Size) (n m d k : ℕ) where
  one : (i : Instruction) (s : State) → legal s ≡ true → legal (execute_of s i) ≡ true
  one i s h = execute-legal s i h

  -- at every budget
  pub plain_kept : (b : ℕ) (s : State) (l : List ℕ) → legal s ≡ true → legal (plain_walk size n m d k b s l).state ≡ true
  plain_kept b s l h =
      run_keeps (instructions_of size n m d k) (λ (t : State). legal t ≡ true) (record { pfalse = one _; whilelo = one _; pnext = one _; incp = one _ }) b (begin s l) h

module _ (size n m d k budget : ℕ) (s : State) (l : List ℕ) (ok : legal s ≡ true) where
  pub walk-legal : legal (walk_of size n m d k budget s l).state ≡ true
  walk-legal = go reply refl
    where
      reply : Reply
      reply = refusal_of size n m d k s (length l)

      go : (r : Reply) → reply ≡ r → legal (walk_of size n m d k budget s l).state ≡ true
      go (Ok tt) e = ap (λ (x : Walked). legal x.state) (answer_accepted size n m d k budget s l e) ∙ plain_kept (size_of size) n m d k budget s l ok
      go (Err _) e = ap (λ (x : Walked). legal x.state) (answer-refused size n m d k budget s l (ap is_done e)) ∙ ok

  -- its counts are those that are worked out from its registers
  pub walk-counted : counted (walk_of size n m d k budget s l).state ≡ (walk_of size n m d k budget s l).state
  walk-counted = legal-counted (walk_of size n m d k budget s l).state walk-legal
