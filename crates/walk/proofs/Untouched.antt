-- A walk changes no predicate register but Pd and Pk, and so never FFR. Assumes nothing.
use Rattle.replies.specs.Reply.{Reply, is_done}
use Rattle.std.specs.Prelude.{Ok, Err}
use Rattle.std.proofs.Common.{◌≡◌, ℕ, ◌<◌, true, false, List, length, refl, ap, ◌∙◌, arith}
use Rattle.bits.specs.declared.Size.{Size}
use Rattle.registers.specs.declared.State.{State}
use Rattle.registers.specs.State.{ffr, register_count, read_p}
use Rattle.scalars.specs.declared.Condition.TheVariants.{Less}
use Rattle.words.specs.declared.Instruction.TheVariants.{While, IncDec, Pnext, Pfalse}
use Rattle.words.specs.declared.Target.TheVariants.{One}
use Rattle.words.specs.Words.{size_of}
use Rattle.machine.proofs.Frame.{untouched}
use Rattle.walk.specs.declared.Walked.{Walked}
use Rattle.walk.specs.Plain.{begin}
use Rattle.walk.specs.Walk.{instructions_of, plain_walk, refusal_of, walk_of}
use Rattle.walk.proofs.Accepted.{p_below}
use Rattle.walk.proofs.Related.{Keeps, run_keeps}
use Rattle.walk.proofs.Answered.{answer_accepted, answer-refused}

module _ (size : Size) (n m d k r : ℕ) (there : r < register_count) (not-d : r ≡ d → ⊥) (not_k : r ≡ k → ⊥) where
  -- at every budget
  pub walk_keeps : (b : ℕ) (s : State) (l : List ℕ) → read_p (plain_walk size n m d k b s l).state r ≡ read_p s r
  walk_keeps b s l = run_keeps (instructions_of size n m d k) (λ (t : State). read_p t r ≡ read_p s r) one b (begin s l) refl
    where
      one : Keeps (instructions_of size n m d k) (λ (t : State). read_p t r ≡ read_p s r)
      one = record {
        pfalse = λ t h. (untouched t (Pfalse k)).p r not_k (λ e. omega arith) ∙ h;
        whilelo = λ t h. (untouched t (While Less true (One true d) size n m)).p r not-d (λ e. omega arith) ∙ h;
        pnext = λ t h. (untouched t (Pnext size d k)).p r not_k (λ e. omega arith) ∙ h;
        incp = λ t h. (untouched t (IncDec false size d n)).p r (λ e. omega arith) (λ e. omega arith) ∙ h;
      }

-- refused or not
pub ffr_kept : (size n m d k budget : ℕ) (s : State) (l : List ℕ) → read_p (walk_of size n m d k budget s l).state ffr ≡ read_p s ffr
ffr_kept size n m d k budget s l = go reply refl
  where
    reply : Reply
    reply = refusal_of size n m d k s (length l)

    go : (r : Reply) → reply ≡ r → read_p (walk_of size n m d k budget s l).state ffr ≡ read_p s ffr
    go (Ok tt) e =
        let (d-below, k_below) = p_below size n m d k s (length l) e in
        ap (λ (x : Walked). read_p x.state ffr) (answer_accepted size n m d k budget s l e)
        ∙ walk_keeps (size_of size) n m d k ffr (omega arith) (λ q. omega arith) (λ q. omega arith) budget s l
    go (Err _) e = ap (λ (x : Walked). read_p x.state ffr) (answer-refused size n m d k budget s l (ap is_done e))
