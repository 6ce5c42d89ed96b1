-- A kernel's step and walk over states that are the same to it, and what they leave alone: an ordinary step's and an ordinary walk's, where the kernel may name what they name. Assumes nothing.
use Rattle.std.specs.Prelude.{Result}
use Rattle.replies.specs.declared.Refusal.{Refusal}
use Rattle.replies.specs.Reply.{Reply, is_done}
use Rattle.std.specs.Prelude.{Ok, Err}
use mathlib.Core.Bool.{Bool, true, false, not}
use mathlib.Core.List.{List}
use mathlib.Core.Path.{◌≡◌, refl, sym, ap, ap₂, ◌∙◌, subst}
use Prim.Native.Nat.{ℕ, ◌-◌}
use lib.Dec.{ltb, eqb}
use lib.ListN.{length}
use Rattle.bits.specs.declared.Size.{Size}
use Rattle.bits.specs.Choice.{pick}
use Rattle.predicates.specs.declared.Flags.{Flags}
use Rattle.replies.specs.declared.Refusal.TheVariants.{IllegalState, BadWalkRegisters, LevelTooLow, AccessOff, ListTooShort, BudgetSpent, NotMonotonic, NotOwned}
use Rattle.registers.specs.declared.State.{State}
use Rattle.registers.specs.Legal.{legal}
use Rattle.registers.specs.State.{read_x, read_p}
use Rattle.scalars.specs.declared.Condition.TheVariants.{Less}
use Rattle.words.specs.declared.Instruction.{Instruction}
use Rattle.words.specs.declared.Instruction.TheVariants.{While, IncDec, Pnext, Pfalse}
use Rattle.words.specs.declared.Target.TheVariants.{One}
use Rattle.words.specs.Words.{level_of, size_of}
use Rattle.instructions.specs.declared.operands.Values.{Values}
use Rattle.instructions.specs.Ffr.{accepts}
use Rattle.instructions.specs.Operands.{registers_of}
use Rattle.machine.specs.Execute.{values_of, execute_of}
use Rattle.machine.specs.Step.{admission_of, reply_of, after_word}
use Rattle.walk.specs.Plain.{Walk, begin}
use Rattle.walk.specs.declared.Walked.{Walked}
use Rattle.walk.specs.Walk.{position_at, instructions_of, plain_walk, walked, bad_registers, distance, refusal_of, whole_of, walk_of}
use Rattle.walk.proofs.Related.{Keeps, Agrees, Related, run_keeps, begin_related}
use Rattle.shared.specs.declared.Kernel.{Kernel}
use Rattle.shared.specs.Inside.{may_step, stands_after, barred}
use Rattle.shared.specs.Ownership.{may_name_x, may_name_p, may_name, may_walk}
use Rattle.shared.proofs.Same.{Same, Apart, both, apart_none, apart_on, same-values, execute-same, execute_apart}

-- ---- a word

module _ (who : Kernel) (a b : State) (s : Same who a b) where
  -- where the kernel may name what it names
  reply_same : (i : Instruction) → may_name who (registers_of i) ≡ true → reply_of a i ≡ reply_of b i
  reply_same i h =
      ap (λ (l : ℕ). admission_of i l a.access (accepts i (values_of a (registers_of i)))) s.level
      ∙ ap₂ (λ (c : Bool) (v : Values). admission_of i b.level c (accepts i v)) s.access (same-values who a b s (registers_of i) h)

  pub after_same : (d : Result Instruction Refusal) → may_step who d ≡ true → ((after_word a d).reply ≡ (after_word b d).reply) × Same who (after_word a d).state (after_word b d).state
  unfolding after_word may_step
  after_same (Err r) h = (refl, s)
  after_same (Ok i) h =
      let e = reply_same i h in
      (e, subst (λ (r : Reply). Same who (after_word a (Ok i)).state (pick (is_done r) (execute_of b i) b)) e (go (is_done (reply_of a i))))
    where
      go : (t : Bool) → Same who (pick t (execute_of a i) a) (pick t (execute_of b i) b)
      go true = execute-same who a b s i h
      go false = s

  -- and where it may not
  pub barred-same : (d : Result Instruction Refusal) → may_step who d ≡ false → barred (after_word a d).reply ≡ barred (after_word b d).reply
  unfolding after_word may_step stands_after
  barred-same (Err r) h = refl
  barred-same (Ok i) h =
      any_value i a.level a.access (accepts i (values_of a (registers_of i))) (accepts i (values_of b (registers_of i)))
      ∙ ap₂ (λ (l : ℕ) (c : Bool). barred (admission_of i l c (accepts i (values_of b (registers_of i))))) s.level s.access
    where
      -- 15 stands before 14, which alone looks at a value
      any_value : (i : Instruction) (level : ℕ) (access t u : Bool) → barred (admission_of i level access t) ≡ barred (admission_of i level access u)
      any_value i level access t u = go (ltb level (level_of i)) access t u
        where
          go : (low on t u : Bool) → barred (pick low (Err LevelTooLow) (pick on (pick t (Ok tt) (Err NotMonotonic)) (Err AccessOff))) ≡ barred (pick low (Err LevelTooLow) (pick on (pick u (Ok tt) (Err NotMonotonic)) (Err AccessOff)))
          go true on t u = refl
          go false false t u = refl
          go false true true true = refl
          go false true true false = refl
          go false true false true = refl
          go false true false false = refl

pub after_apart : (who : Kernel) (a : State) (d : Result Instruction Refusal) → may_step who d ≡ true → Apart who a (after_word a d).state
unfolding after_word may_step
after_apart who a (Err r) h = apart_none who a
after_apart who a (Ok i) h = go (is_done (reply_of a i))
  where
    go : (t : Bool) → Apart who a (pick t (execute_of a i) a)
    go true = execute_apart who a i h
    go false = apart_none who a

-- ---- the instructions of a walk

-- the four registers
pub record Walks (who : Kernel) (n m d k : ℕ) : Type 0 where
  pub start : may_name_x who n ≡ true
  pub limit : may_name_x who m ≡ true
  pub lanes : may_name_p who d ≡ true
  pub cursor : may_name_p who k ≡ true

pub all_walked : (who : Kernel) (n m d k : ℕ) → may_walk who n m d k ≡ true → Walks who n m d k
unfolding may_walk
all_walked who n m d k h =
    let (start, h1) = both _ _ h in
    let (limit, h2) = both _ _ h1 in
    let (lanes, cursor) = both _ _ h2 in
    record { start = start; limit = limit; lanes = lanes; cursor = cursor }

module _ (who : Kernel) (size : Size) (n m d k : ℕ) (w : Walks who n m d k) where
  pfalse_named : may_name who (registers_of (Pfalse k)) ≡ true
  unfolding may_name may_name_x may_name_p
  pfalse_named = rw w.cursor refl

  whilelo_named : may_name who (registers_of (While Less true (One true d) size n m)) ≡ true
  unfolding may_name may_name_x may_name_p
  whilelo_named = rw (w.start, w.limit, w.lanes) refl

  pnext_named : may_name who (registers_of (Pnext size d k)) ≡ true
  unfolding may_name may_name_x may_name_p
  pnext_named = rw (w.lanes, w.cursor) refl

  incp_named : may_name who (registers_of (IncDec false size d n)) ≡ true
  unfolding may_name may_name_x may_name_p
  incp_named = rw (w.start, w.lanes) refl

  pub walk_same : (budget : ℕ) (a b : State) (l : List ℕ) → Same who a b → Related (Same who) (plain_walk size n m d k budget a l) (plain_walk size n m d k budget b l)
  walk_same budget a b l s = begin_related (instructions_of size n m d k) (instructions_of size n m d k) (Same who) agrees budget a b l s
    where
      agrees : Agrees (instructions_of size n m d k) (instructions_of size n m d k) (Same who)
      agrees = record {
        pfalse = λ s t r. execute-same who s t r (Pfalse k) pfalse_named;
        whilelo = λ s t r. execute-same who s t r (While Less true (One true d) size n m) whilelo_named;
        pnext = λ s t r. execute-same who s t r (Pnext size d k) pnext_named;
        incp = λ s t r. execute-same who s t r (IncDec false size d n) incp_named;
        zero_flag = λ s t r. ap (λ (f : Flags). f.z) r.flags;
        position = λ s t r.
            ap₂ (λ (x v : ℕ). position_at size x (read_p s k) v) (r.x n w.start) r.vl ∙ ap (λ q. position_at size (read_x t n) q t.vl) (r.p k w.cursor);
      }

  pub walk_apart : (budget : ℕ) (a : State) (l : List ℕ) → Apart who a (plain_walk size n m d k budget a l).state
  walk_apart budget a l = run_keeps (instructions_of size n m d k) (Apart who a) keeps budget (begin a l) (apart_none who a)
    where
      keeps : Keeps (instructions_of size n m d k) (Apart who a)
      keeps = record {
        pfalse = λ t h. apart_on who a t _ h (execute_apart who t (Pfalse k) pfalse_named);
        whilelo = λ t h. apart_on who a t _ h (execute_apart who t (While Less true (One true d) size n m) whilelo_named);
        pnext = λ t h. apart_on who a t _ h (execute_apart who t (Pnext size d k) pnext_named);
        incp = λ t h. apart_on who a t _ h (execute_apart who t (IncDec false size d n) incp_named);
      }

-- ---- the refusals of a walk

module _ (who : Kernel) (a b : State) (s : Same who a b) (alike : legal a ≡ legal b) (size n m d k places : ℕ) where
  pub refusal-same : Walks who n m d k → refusal_of size n m d k a places ≡ refusal_of size n m d k b places
  unfolding refusal_of
  refusal-same w =
      ap₂ (λ (g : Bool) (l : ℕ). pick (not g) (Err IllegalState) (pick (bad_registers size n m d k) (Err BadWalkRegisters) (pick (eqb l 0) (Err LevelTooLow) (pick (not a.access) (Err AccessOff) (pick (ltb places (distance n m a)) (Err ListTooShort) (Ok tt)))))) alike s.level
      ∙ ap (λ (c : Bool). pick (not (legal b)) (Err IllegalState) (pick (bad_registers size n m d k) (Err BadWalkRegisters) (pick (eqb b.level 0) (Err LevelTooLow) (pick (not c) (Err AccessOff) (pick (ltb places (distance n m a)) (Err ListTooShort) (Ok tt)))))) s.access
      ∙ ap₂ (λ (x y : ℕ). pick (not (legal b)) (Err IllegalState) (pick (bad_registers size n m d k) (Err BadWalkRegisters) (pick (eqb b.level 0) (Err LevelTooLow) (pick (not b.access) (Err AccessOff) (pick (ltb places (y - x)) (Err ListTooShort) (Ok tt)))))) (s.x n w.start) (s.x m w.limit)

-- where a register is not the kernel's, the order is 4, 10, 2, 3, 15
pub barred-refusal : (size n m d k places : ℕ) (a : State)
    → barred (refusal_of size n m d k a places)
    ≡ pick (not (legal a)) (Err IllegalState) (pick (bad_registers size n m d k) (Err BadWalkRegisters) (pick (eqb a.level 0) (Err LevelTooLow) (pick (not a.access) (Err AccessOff) (Err NotOwned))))
unfolding refusal_of stands_after
barred-refusal size n m d k places a = go (not (legal a)) (bad_registers size n m d k) (eqb a.level 0) (not a.access) (ltb places (distance n m a))
  where
    go : (x y z v w : Bool)
        → barred (pick x (Err IllegalState) (pick y (Err BadWalkRegisters) (pick z (Err LevelTooLow) (pick v (Err AccessOff) (pick w (Err ListTooShort) (Ok tt))))))
        ≡ pick x (Err IllegalState) (pick y (Err BadWalkRegisters) (pick z (Err LevelTooLow) (pick v (Err AccessOff) (Err NotOwned))))
    go true y z v w = refl
    go false true z v w = refl
    go false false true v w = refl
    go false false false true w = refl
    go false false false false true = refl
    go false false false false false = refl

module _ (who : Kernel) (a b : State) (s : Same who a b) (alike : legal a ≡ legal b) (size n m d k places : ℕ) where
  pub barred-refusal-same : barred (refusal_of size n m d k a places) ≡ barred (refusal_of size n m d k b places)
  barred-refusal-same =
      barred-refusal size n m d k places a
      ∙ ap₂ (λ (g : Bool) (l : ℕ). pick (not g) (Err IllegalState) (pick (bad_registers size n m d k) (Err BadWalkRegisters) (pick (eqb l 0) (Err LevelTooLow) (pick (not a.access) (Err AccessOff) (Err NotOwned))))) alike s.level
      ∙ ap (λ (c : Bool). pick (not (legal b)) (Err IllegalState) (pick (bad_registers size n m d k) (Err BadWalkRegisters) (pick (eqb b.level 0) (Err LevelTooLow) (pick (not c) (Err AccessOff) (Err NotOwned))))) s.access
      ∙ sym (barred-refusal size n m d k places b)

-- ---- a walk, refused or not

-- two answers with the lists after them
pub record Agreeing (who : Kernel) (r q : Walked) (l k : List ℕ) : Type 0 where
  pub reply : r.reply ≡ q.reply
  pub count : r.count ≡ q.count
  pub visited : r.visited ≡ q.visited
  pub list : l ≡ k
  pub state : Same who r.state q.state

module _ (who : Kernel) (size n m d k budget : ℕ) (a b : State) (l : List ℕ) (w : Walks who n m d k) where
  pub walked_same : Same who a b → legal a ≡ legal b
      → Agreeing who (walk_of size n m d k budget a l) (walk_of size n m d k budget b l) (whole_of size n m d k budget a l).list (whole_of size n m d k budget b l).list
  unfolding walk_of whole_of
  walked_same s alike =
      subst
      (λ (r : Reply).
      Agreeing who (walk_of size n m d k budget a l) (pick (is_done r) (walked (whole_as r b)) (record { reply = r; count = 0; visited = 0; state = b })) (whole_of size n m d k budget a l).list (whole_as r b).list)
      (refusal-same who a b s alike size n m d k (length l) w)
      (go (is_done (refusal_of size n m d k a (length l))))
    where
      whole_as : Reply → State → Walk State
      whole_as r t = pick (is_done r) (plain_walk (size_of size) n m d k budget t l) (begin t l)

      go : (t : Bool)
          → Agreeing who
          (pick t (walked (pick t (plain_walk (size_of size) n m d k budget a l) (begin a l))) (record { reply = refusal_of size n m d k a (length l); count = 0; visited = 0; state = a }))
          (pick t (walked (pick t (plain_walk (size_of size) n m d k budget b l) (begin b l))) (record { reply = refusal_of size n m d k a (length l); count = 0; visited = 0; state = b }))
          (pick t (plain_walk (size_of size) n m d k budget a l) (begin a l)).list
          (pick t (plain_walk (size_of size) n m d k budget b l) (begin b l)).list
      go true =
          let r = walk_same who (size_of size) n m d k w budget a b l s in
          record { reply = ap (λ (z : Bool). pick z (Ok tt) (Err BudgetSpent)) r.ended; count = r.count; visited = r.visited; list = r.list; state = r.state }
      go false = record { reply = refl; count = refl; visited = refl; list = refl; state = s }

  pub walked_apart : Apart who a (walk_of size n m d k budget a l).state
  unfolding walk_of whole_of
  walked_apart = go (is_done (refusal_of size n m d k a (length l)))
    where
      go : (t : Bool)
          → Apart who a
          (pick t (walked (pick t (plain_walk (size_of size) n m d k budget a l) (begin a l))) (record { reply = refusal_of size n m d k a (length l); count = 0; visited = 0; state = a })).state
      go true = walk_apart who (size_of size) n m d k w budget a l
      go false = apart_none who a
