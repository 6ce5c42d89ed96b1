-- A step and a run, from what each part of the code gives; a run is its steps. Assumes nothing.
use Rattle.std.specs.Prelude.{Result}
use Rattle.replies.specs.declared.Refusal.{Refusal}
use Rattle.replies.specs.Reply.{Reply, is_done}
use Rattle.std.specs.Prelude.{Ok, Err}
use mathlib.Core.Bool.{Bool, true, false, not}
use mathlib.Core.List.{List, [], ◌∷◌}
use mathlib.Core.Path.{◌≡◌, refl, sym, ap, ◌∙◌}
use Prim.Native.Nat.{ℕ, suc, ◌+◌, ◌≤◌, ◌<◌}
use native.Mathlib.Numerals.{add-one}
use native.Mathlib.Omega.{arith}
use lib.ListN.{length, get_or, drop, drop_of_length-le}
use lib.Seq.{drop-cons}
use borrow.Author.Tests.{lt-ltb, le-ltb, not-true, not-false}
use Rattle.bits.specs.Choice.{pick}
use Rattle.bits.proofs.Searches.{never}
use Rattle.replies.specs.declared.Refusal.TheVariants.{LevelTooLow, AccessOff, IllegalState, NotMonotonic}
use Rattle.registers.specs.declared.State.{State}
use Rattle.registers.specs.declared.parts.Settings.{Settings}
use Rattle.registers.specs.Legal.{legal}
use Rattle.registers.specs.Parts.{predicates_of, counts_from, state_at, settings_of}
use Rattle.registers.proofs.PartLaws.{parts_are}
use Rattle.words.specs.declared.Instruction.{Instruction}
use Rattle.words.specs.Words.{decode_of, level_of}
use Rattle.machine.specs.declared.Ran.{Ran}
use Rattle.machine.specs.declared.Stepped.{Stepped}
use Rattle.instructions.specs.declared.operands.Registers.{Registers}
use Rattle.instructions.specs.declared.operands.Values.{Values}
use Rattle.instructions.specs.Ffr.{accepts}
use Rattle.instructions.specs.Operands.{registers_of}
use Rattle.machine.specs.Execute.{values_of, execute_of}
use Rattle.machine.specs.Step.{admission_of, reply_of, answered, after_word, step_of, steps_of, run_of}
use Rattle.machine.proofs.Kept.{execute-legal}

pub pick_yes : {A : Type 0} (b : Bool) (x y : A) → b ≡ true → pick b x y ≡ x
pick_yes true x y h = refl
pick_yes false x y h = never h refl

pub pick_no : {A : Type 0} (b : Bool) (x y : A) → b ≡ false → pick b x y ≡ y
pick_no false x y h = refl
pick_no true x y h = never refl h

-- ---- the refusals 2, 3 and 14

module _ (i : Instruction) (n level : ℕ) (access accepted : Bool) (asked : n ≡ level_of i) where
  pub asks_more : level < n → (Err LevelTooLow) ≡ admission_of i level access accepted
  asks_more l = sym (pick_yes _ _ _ (lt-ltb level (level_of i) (omega arith)))

  level_enough : n ≤ level → admission_of i level access accepted ≡ pick access (pick accepted (Ok tt) (Err NotMonotonic)) (Err AccessOff)
  level_enough l = pick_no _ _ _ (le-ltb level (level_of i) (omega arith))

  pub no_access : n ≤ level → not access ≡ true → (Err AccessOff) ≡ admission_of i level access accepted
  no_access l a = sym (level_enough l ∙ pick_no _ _ _ (not-true access a))

  access_on : n ≤ level → not access ≡ false → admission_of i level access accepted ≡ pick accepted (Ok tt) (Err NotMonotonic)
  access_on l a = level_enough l ∙ pick_yes _ _ _ (not-false access a)

  pub not_taken : n ≤ level → not access ≡ false → not accepted ≡ true → (Err NotMonotonic) ≡ admission_of i level access accepted
  not_taken l a t = sym (access_on l a ∙ pick_no _ _ _ (not-true accepted t))

  pub admitted : n ≤ level → not access ≡ false → not accepted ≡ false → (Ok tt) ≡ admission_of i level access accepted
  admitted l a t = sym (access_on l a ∙ pick_yes _ _ _ (not-false accepted t))

-- ---- an instruction, refused or executed

-- the reply, from the values that were read
pub replied : (s : State) (i : Instruction) (q : Registers) (v : Values) (t : Bool) (r : Reply) → q ≡ registers_of i → v ≡ values_of s q → t ≡ accepts i v
    → r ≡ admission_of i s.level s.access t → r ≡ reply_of s i
replied s i q v t r hq hv ht hr =
    hr
    ∙ ap (admission_of i s.level s.access) (ht ∙ ap (accepts i) hv)
    ∙ ap (λ (o : Registers). admission_of i s.level s.access (accepts i (values_of s o))) hq

-- the same where values were read whatever the settings and flags
pub replied_in : (s : Settings) (f : List Bool) (x : List ℕ) (p c : List (List ℕ)) (i : Instruction) (q : Registers) (v : Values) (t : Bool) (r : Reply) → q ≡ registers_of i
    → ((u : Settings) → (g : List Bool) → v ≡ values_of (state_at u g x p c) q) → t ≡ accepts i v → r ≡ admission_of i s.level s.access t → r ≡ reply_of (state_at s f x p c) i
replied_in s f x p c i q v t r hq hv ht hr = replied (state_at s f x p c) i q v t r hq (hv s f) ht hr

module _ (s : State) (i : Instruction) (r : Reply) (is : r ≡ reply_of s i) where
  at_reply : answered r (pick (is_done r) (execute_of s i) s) ≡ after_word s (Ok i)
  unfolding after_word
  at_reply = ap (λ (q : Reply). answered q (pick (is_done q) (execute_of s i) s)) is

  pub stops : (e : Refusal) → r ≡ Err e → answered (Err e) s ≡ after_word s (Ok i)
  stops e h = ap (λ (q : Reply). answered q (pick (is_done q) (execute_of s i) s)) (sym h) ∙ at_reply

  -- a refusal passed on
  pub passes : (q : Reply) (e : Refusal) → r ≡ Err e → q ≡ Err e → answered q s ≡ after_word s (Ok i)
  passes q e h g = ap (λ (z : Reply). answered z s) g ∙ stops e h

  pub goes : (t : State) → r ≡ Ok tt → t ≡ execute_of s i → answered (Ok tt) t ≡ after_word s (Ok i)
  goes t h e = ap (answered (Ok tt)) e ∙ ap (λ (q : Reply). answered q (pick (is_done q) (execute_of s i) s)) (sym h) ∙ at_reply

-- ---- a word, by what it is

pub word-refused : (s : State) (w : ℕ) (d : Result Instruction Refusal) (r : Refusal) → d ≡ decode_of w → d ≡ Err r → answered (Err r) s ≡ after_word s (decode_of w)
unfolding after_word
word-refused s w d r hd h = sym (ap (after_word s) (sym hd ∙ h))

-- the same, passed on
pub word_passed : (s : State) (w : ℕ) (d : Result Instruction Refusal) (q : Reply) (r : Refusal) → d ≡ decode_of w → d ≡ Err r → q ≡ Err r → answered q s ≡ after_word s (decode_of w)
word_passed s w d q r hd h g = ap (λ (z : Reply). answered z s) g ∙ word-refused s w d r hd h

pub word_ours : (s : State) (w : ℕ) (d : Result Instruction Refusal) (i : Instruction) (t : Stepped) → d ≡ decode_of w → d ≡ Ok i → t ≡ after_word s (Ok i) → t ≡ after_word s (decode_of w)
word_ours s w d i t hd h e = e ∙ sym (ap (after_word s) (sym hd ∙ h))

-- ---- a step, legal or not

module _ (s : State) (w : ℕ) (b : Bool) (is : b ≡ legal s) where
  pub step-illegal : not b ≡ true → answered (Err IllegalState) s ≡ step_of s w
  unfolding step_of
  step-illegal h = sym (pick_no _ _ _ (sym is ∙ not-true b h))

  pub step_goes : (t : Stepped) → not b ≡ false → t ≡ after_word s (decode_of w) → t ≡ step_of s w
  unfolding step_of
  step_goes t h e = e ∙ sym (pick_yes _ _ _ (sym is ∙ not-false b h))

pub step-legal : (s : State) (w : ℕ) → legal s ≡ true → step_of s w ≡ after_word s (decode_of w)
unfolding step_of
step-legal s w e = pick_yes _ _ _ e

-- the same where legality was tested whatever the flags
module _ (s : Settings) (f : List Bool) (x : List ℕ) (p c : List (List ℕ)) (b : Bool) (is : (g : List Bool) → b ≡ legal (state_at s g x p c)) where
  pub in_illegal : (w : ℕ) → not b ≡ true → answered (Err IllegalState) (state_at s f x p c) ≡ step_of (state_at s f x p c) w
  in_illegal w h = step-illegal (state_at s f x p c) w b (is f) h

  pub in_goes : (w : ℕ) (t : Stepped) → not b ≡ false → t ≡ after_word (state_at s f x p c) (decode_of w) → t ≡ step_of (state_at s f x p c) w
  in_goes w t h e = step_goes (state_at s f x p c) w b (is f) t h e

  pub run-illegal : (ws : List ℕ) → not b ≡ true → record { reply = Err IllegalState; refused = Ok tt; done = 0; state = state_at s f x p c } ≡ run_of (state_at s f x p c) ws
  unfolding run_of
  run-illegal ws h = sym (pick_no _ _ _ (sym (is f) ∙ not-true b h))

  pub run-legal : not b ≡ false → legal (state_at s f x p c) ≡ true
  run-legal h = sym (is f) ∙ not-false b h

  pub run_begins : (ws : List ℕ) → not b ≡ false → steps_of 0 (state_at s f x p c) ws ≡ run_of (state_at s f x p c) ws
  unfolding run_of
  run_begins ws h = sym (pick_yes _ _ _ (run-legal h))

-- ---- a refusal leaves the state as it was

after_leaves : (s : State) (d : Result Instruction Refusal) (e : Refusal) → (after_word s d).reply ≡ Err e → answered (Err e) s ≡ after_word s d
unfolding after_word
after_leaves s (Err r) e h = ap (λ (z : Reply). answered z s) (sym h)
after_leaves s (Ok i) e h = stops s i (reply_of s i) refl e h

pub step_leaves : (s : State) (w : ℕ) (e : Refusal) → (step_of s w).reply ≡ Err e → answered (Err e) s ≡ step_of s w
unfolding step_of
step_leaves s w e = go (legal s)
  where
    go : (b : Bool) → (pick b (after_word s (decode_of w)) (answered (Err IllegalState) s)).reply ≡ Err e → answered (Err e) s ≡ pick b (after_word s (decode_of w)) (answered (Err IllegalState) s)
    go true h = after_leaves s (decode_of w) e h
    go false h = ap (λ (z : Reply). answered z s) (sym h)

-- ---- a legal state stays legal, refused or not

pub after_kept : (s : State) (d : Result Instruction Refusal) → legal s ≡ true → legal (after_word s d).state ≡ true
unfolding after_word
after_kept s (Err e) k = k
after_kept s (Ok i) k = go (is_done (reply_of s i))
  where
    go : (b : Bool) → legal (pick b (execute_of s i) s) ≡ true
    go true = execute-legal s i k
    go false = k

pub step_kept : (s : State) (w : ℕ) → legal s ≡ true → legal (step_of s w).state ≡ true
step_kept s w k = ap (λ (x : Stepped). legal x.state) (step-legal s w k) ∙ after_kept s (decode_of w) k

-- ---- words, one after the other

module _ (ws : List ℕ) where
  pub words_end : (s : State) (done : ℕ) → length ws ≤ done → record { reply = Ok tt; refused = Ok tt; done = done; state = s } ≡ steps_of done s (drop done ws)
  unfolding steps_of
  words_end s done h = sym (ap (steps_of done s) (drop_of_length-le ws h))

  module _ (s : State) (done : ℕ) (t : Stepped) (b : Bool) (below : done < length ws) (is : t ≡ step_of s (get_or ws done 0)) (told : b ≡ is_done t.reply) where
    next_word : steps_of done s (drop done ws) ≡ pick b (steps_of (suc done) t.state (drop (suc done) ws)) (record { reply = Ok tt; refused = t.reply; done = done; state = t.state })
    unfolding steps_of
    next_word =
        ap (steps_of done s) (drop-cons ws done 0 below)
        ∙ ap (λ (u : Stepped). pick (is_done u.reply) (steps_of (suc done) u.state (drop (suc done) ws)) (record { reply = Ok tt; refused = u.reply; done = done; state = u.state })) (sym is)
        ∙ ap (λ (c : Bool). pick c (steps_of (suc done) t.state (drop (suc done) ws)) (record { reply = Ok tt; refused = t.reply; done = done; state = t.state })) (sym told)

    pub words_on : not b ≡ false → steps_of (done + 1) t.state (drop (done + 1) ws) ≡ steps_of done s (drop done ws)
    words_on h = rw (add-one done) (sym (next_word ∙ pick_yes _ _ _ (not-false b h)))

    pub words_stop : not b ≡ true → record { reply = Ok tt; refused = t.reply; done = done; state = t.state } ≡ steps_of done s (drop done ws)
    words_stop h = sym (next_word ∙ pick_no _ _ _ (not-true b h))

-- the turns of a run: legality, tested once, holds before every word
module _ (ws : List ℕ) (s : State) (r : Ran) (done : ℕ) (ok : legal s ≡ true) (inv : steps_of done s (drop done ws) ≡ r) where
  pub run_ends : length ws ≤ done → record { reply = Ok tt; refused = Ok tt; done = done; state = s } ≡ r
  run_ends h = words_end ws s done h ∙ inv

  module _ (reply : Reply) (t : State) (below : done < length ws) (is : answered reply t ≡ after_word s (decode_of (get_or ws done 0))) where
    stepped : answered reply t ≡ step_of s (get_or ws done 0)
    stepped = is ∙ sym (step-legal s (get_or ws done 0) ok)

    pub run_stops : (e : Refusal) → reply ≡ Err e → record { reply = Ok tt; refused = Err e; done = done; state = t } ≡ r
    run_stops e h =
        ap (λ (q : Reply). record { reply = Ok tt; refused = q; done = done; state = t }) (sym h)
        ∙ words_stop ws s done (answered reply t) (is_done reply) below stepped refl (ap (λ (q : Reply). not (is_done q)) h) ∙ inv

    pub run_on : reply ≡ Ok tt → steps_of (done + 1) t (drop (done + 1) ws) ≡ r
    run_on h = words_on ws s done (answered reply t) (is_done reply) below stepped refl (ap (λ (q : Reply). not (is_done q)) h) ∙ inv

-- the same of an answer
pub kept_on : (s : State) (d : Result Instruction Refusal) (t : Stepped) → legal s ≡ true → t ≡ after_word s d → legal t.state ≡ true
kept_on s d t k e = ap (λ (x : Stepped). legal x.state) e ∙ after_kept s d k

-- ---- a step and a run of a state by value, over its parts

module _ (s : State) (u : Settings) (w : ℕ) (reply : Reply) (f g : List Bool) (x : List ℕ) (p q c k : List (List ℕ)) (hu : u ≡ settings_of s)
    (hf : f ≡ s.flags.n ∷ s.flags.z ∷ s.flags.c ∷ s.flags.v ∷ []) (hp : predicates_of p ≡ s.p) (hc : counts_from c ≡ s.counts)
    (h : answered reply (state_at u g x q k) ≡ step_of (state_at u f s.x p c) w) where
  parts_stepped : answered reply (state_at u g x q k) ≡ step_of s w
  parts_stepped = h ∙ ap (λ (z : State). step_of z w) (parts_are s u f p c hu hf hp hc)

  pub parts_done : (t : State) → reply ≡ Ok tt → t ≡ state_at u g x q k → answered (Ok tt) t ≡ step_of s w
  parts_done t hr ht = ap (answered (Ok tt)) ht ∙ ap (λ (r : Reply). answered r (state_at u g x q k)) (sym hr) ∙ parts_stepped

  pub parts_refused : (e : Refusal) → reply ≡ Err e → answered (Err e) s ≡ step_of s w
  parts_refused e hr = step_leaves s w e (ap (λ (z : Stepped). z.reply) (sym parts_stepped) ∙ hr)

pub ran : (s t : State) (u : Settings) (ws : List ℕ) (done : ℕ) (reply refused : Reply) (f g : List Bool) (x : List ℕ) (p q c k : List (List ℕ))
    → u ≡ settings_of s → f ≡ s.flags.n ∷ s.flags.z ∷ s.flags.c ∷ s.flags.v ∷ [] → predicates_of p ≡ s.p
    → counts_from c ≡ s.counts → record { reply = reply; refused = refused; done = done; state = state_at u g x q k } ≡ run_of (state_at u f s.x p c) ws
    → t ≡ state_at u g x q k → record { reply = reply; refused = refused; done = done; state = t } ≡ run_of s ws
ran s t u ws done reply refused f g x p q c k hu hf hp hc h ht =
    ap (λ (z : State). record { reply = reply; refused = refused; done = done; state = z }) ht ∙ h ∙ ap (λ (z : State). run_of z ws) (parts_are s u f p c hu hf hp hc)

-- ---- a run

steps_kept : (ws : List ℕ) (done : ℕ) (s : State) → legal s ≡ true → legal (steps_of done s ws).state ≡ true
unfolding steps_of
steps_kept [] done s k = k
steps_kept (w ∷ ws) done s k = go (is_done t.reply) (steps_kept ws (suc done) t.state (step_kept s w k))
  where
    t : Stepped
    t = step_of s w

    go : (b : Bool) → legal (steps_of (suc done) t.state ws).state ≡ true
        → legal (pick b (steps_of (suc done) t.state ws) (record { reply = Ok tt; refused = t.reply; done = done; state = t.state })).state ≡ true
    go true h = h
    go false h = step_kept s w k

-- a run of a legal state is its steps
pub run_steps : (s : State) (ws : List ℕ) → legal s ≡ true → run_of s ws ≡ steps_of 0 s ws
unfolding run_of
run_steps s ws h = pick_yes _ _ _ h

pub run_kept : (s : State) (ws : List ℕ) → legal s ≡ true → legal (run_of s ws).state ≡ true
run_kept s ws k = ap (λ (r : Ran). legal r.state) (run_steps s ws k) ∙ steps_kept ws 0 s k
