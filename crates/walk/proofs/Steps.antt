-- Each instruction of an accepted walk, written as a word, is accepted by a step in the state in which it comes, and its step is what the walk does. Assumes nothing.
use Rattle.std.specs.Prelude.{Ok, Err}
use Rattle.std.proofs.Common.{◌≡◌, ℕ, ◌+◌, ◌<◌, ◌≤◌, Bool, true, false, List, length, sym, refl, ap, ◌∙◌, arith, lt-ltb}
use Rattle.bits.specs.declared.Size.{Size}
use Rattle.bits.specs.Choice.{pick}
use Rattle.bits.specs.Size.{shift}
use Rattle.bits.proofs.Sizes.{shift-lt}
use Rattle.replies.specs.declared.Refusal.TheVariants.{FieldPastRange}
use Rattle.registers.specs.declared.State.{State}
use Rattle.words.specs.declared.Instruction.{Instruction}
use Rattle.words.specs.Layout.{fits}
use Rattle.words.specs.Words.{size_of, in_range, word_of, encode_of, level_of}
use Rattle.instructions.specs.Ffr.{accepts}
use Rattle.instructions.specs.Operands.{registers_of}
use Rattle.machine.specs.Execute.{values_of, execute_of}
use Rattle.machine.specs.Step.{answered}
use Rattle.machine.specs.Frame.{SameSettings}
use Rattle.machine.proofs.Frame.{untouched}
use Rattle.machine.proofs.Replies.{instruction_accepted}
use Rattle.walk.specs.declared.Phase.{Phase}
use Rattle.walk.specs.declared.Phase.TheVariants as P
use Rattle.walk.specs.Plain.{WalkInstructions, Walk, begin, advanced, execute}
use Rattle.walk.specs.Steps.{IsStep}
use Rattle.walk.specs.Walk.{instruction_at, instructions_of, plain_walk, refusal_of}
use Rattle.walk.proofs.Accepted.{accepted_when}
use Rattle.walk.proofs.Kept.{plain_kept}
use Rattle.walk.proofs.Related.{run_keeps}
use Rattle.walk.proofs.Runs.{run_one}

module _ (size : Size) (n m d k : ℕ) where
  abbrev M : WalkInstructions State
  M = instructions_of size n m d k

  -- ---- what an instruction of the walk asks

  -- two X registers below 32 and two P registers below 16 have room in their fields
  in_range_lem : n < 32 → m < 32 → d < 16 → k < 16 → (p : Phase) → in_range (instruction_at size n m d k p) ≡ true
  unfolding fits
  in_range_lem hn hm hd hk P.Pfalse = rw (lt-ltb k 16 hk)
  in_range_lem hn hm hd hk P.Whilelo = rw (lt-ltb (shift size) 4 (shift-lt size), lt-ltb m 32 hm, lt-ltb n 32 hn, lt-ltb d 16 hd)
  in_range_lem hn hm hd hk P.Pnext = rw (lt-ltb (shift size) 4 (shift-lt size), lt-ltb d 16 hd, lt-ltb k 16 hk)
  in_range_lem hn hm hd hk P.Incp = rw (lt-ltb (shift size) 4 (shift-lt size), lt-ltb d 16 hd, lt-ltb n 32 hn)

  level_one : (p : Phase) → level_of (instruction_at size n m d k p) ≡ 1
  level_one P.Pfalse = refl
  level_one P.Whilelo = refl
  level_one P.Pnext = refl
  level_one P.Incp = refl

  takes_any : (p : Phase) (s : State) → let i = instruction_at size n m d k p in accepts i (values_of s (registers_of i)) ≡ true
  takes_any P.Pfalse s = refl
  takes_any P.Whilelo s = refl
  takes_any P.Pnext s = refl
  takes_any P.Incp s = refl

  -- ---- what a turn does

  moved : (z : Bool) (s : State) (w : Walk State) → (advanced M z s w).state ≡ s
  moved true s w = refl
  moved false s w = refl

  executes : (p : Phase) (w : Walk State) → (execute M p w).state ≡ execute_of w.state (instruction_at size n m d k p)
  executes P.Pfalse w = refl
  executes P.Whilelo w = refl
  executes P.Pnext w = moved (M.zero_flag (M.pnext w.state)) (M.pnext w.state) w
  executes P.Incp w = refl

  -- vector length, level and access stay, at every budget
  pub plain-settings : (b : ℕ) (s : State) (l : List ℕ) → SameSettings s (plain_walk size n m d k b s l).state
  plain-settings b s l =
      run_keeps M (SameSettings s) (record { pfalse = one _; whilelo = one _; pnext = one _; incp = one _ }) b (begin s l) (record { vl = refl; level = refl; access = refl })
    where
      one : (i : Instruction) (t : State) → SameSettings s t → SameSettings s (execute_of t i)
      one i t h =
          let same = (untouched t i).settings in
          record { vl = same.vl ∙ h.vl; level = same.level ∙ h.level; access = same.access ∙ h.access }

  pub turn_executes : (b : ℕ) (s : State) (l : List ℕ) → (plain_walk size n m d k b s l).ended ≡ false
      → (plain_walk size n m d k (b + 1) s l).state ≡ execute_of (plain_walk size n m d k b s l).state (instruction_at size n m d k (plain_walk size n m d k b s l).next)
  turn_executes b s l e =
      let w = plain_walk size n m d k b s l in
      ap (λ (v : Walk State). v.state) (run_one M b (begin s l) ∙ ap (λ (z : Bool). pick z w (execute M w.next w)) e) ∙ executes w.next w

has_word : (i : Instruction) → in_range i ≡ true → encode_of i ≡ Ok (word_of i)
unfolding encode_of
has_word i h = ap (λ (b : Bool). pick b (Ok (word_of i)) (Err FieldPastRange)) h

-- for an accepted walk, at every budget at which it has not ended
pub walk_steps : (size n m d k : ℕ) (s : State) (l : List ℕ) → refusal_of size n m d k s (length l) ≡ Ok tt
    → (b : ℕ) → (plain_walk (size_of size) n m d k b s l).ended ≡ false
    → IsStep (instruction_at (size_of size) n m d k (plain_walk (size_of size) n m d k b s l).next) (plain_walk (size_of size) n m d k b s l).state (plain_walk (size_of size) n m d k (b + 1) s l).state
walk_steps size n m d k s l e b on =
    let a = (accepted_when size n m d k s (length l)).1 e in
    let g = a.registers in
    let w = plain_walk (size_of size) n m d k b s l in
    let i = instruction_at (size_of size) n m d k w.next in
    let fits : in_range i ≡ true = in_range_lem (size_of size) n m d k (omega arith) (omega arith) (omega arith) (omega arith) w.next in
    let kept = plain_kept (size_of size) n m d k b s l a.legal_is in
    let settings = plain-settings (size_of size) n m d k b s l in
    let enough : level_of i ≤ w.state.level = omega (arith, level_one (size_of size) n m d k w.next, settings.level) in
    let executed = turn_executes (size_of size) n m d k b s l on in
    record {
      written = has_word i fits;
      accepted =
          instruction_accepted w.state i fits kept enough (settings.access ∙ a.on) (takes_any (size_of size) n m d k w.next w.state)
          ∙ ap (answered (Ok tt)) (sym executed);
      executed = executed;
    }
