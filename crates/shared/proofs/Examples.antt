-- Two kernels at VL 128: replies and their order, computed from the definitions; what the theorems ask of states is met; and, for each rule of ownership, two states that are alike to a kernel but of which
-- an ordinary step, which knows no owners, makes different things.
use Rattle.replies.specs.Reply.{number_of}
use Rattle.std.specs.Prelude.{Ok, Err}
use mathlib.Core.Bool.{Bool, true, false}
use mathlib.Core.List.{List, [], ◌∷◌, map}
use mathlib.Core.Path.{◌≡◌, refl, sym}
use Prim.Native.Nat.{ℕ, zero, suc, ◌^◌, ◌≤◌, ◌<◌}
use native.Mathlib.Decide.{ℕ_discrete}
use native.Mathlib.Omega.{arith}
use lib.ListN.{set, replicate, length, get_or}
use lib.Seq.{get_or-set_other}
use borrow.Author.Tests.{ltb-true}
use Rattle.bits.specs.declared.Size.TheVariants as Sz
use Rattle.bits.specs.Bits.{test_bit, number, element_bit}
use Rattle.bits.specs.Search.{count, some, after_last, scan}
use Rattle.bits.proofs.Searches.{never}
use Rattle.predicates.specs.PredTest.{at_lowest, at_highest, pred_test, nzcv, flags_of}
use Rattle.predicates.specs.Predicate.{bit_at, pack, active, spread, elements, predicate_length, has_bit_from, monotonic, all_false}
use Rattle.tally.specs.Counts.{counts_of, same_counts}
use Rattle.replies.specs.declared.Refusal.TheVariants.{LevelTooLow, AccessOff, IllegalState, BadWalkRegisters, ListTooShort, BudgetSpent, NotOwned}
use Rattle.registers.specs.Legal.{has_all_registers, is_length, has_stray_bit, has_wrong_count, illegal, legal}
use Rattle.registers.specs.State.{all_counts, made, read_x, read_p, with_x, with_p, with_flags}
use Rattle.registers.proofs.Registers.{read_x-other, read_p-other}
use Rattle.scalars.specs.declared.Condition.TheVariants.{Less}
use Rattle.scalars.specs.While.{operand_at, comparison, all_held}
use Rattle.words.specs.declared.Instruction.{Instruction}
use Rattle.words.specs.declared.Instruction.TheVariants.{While, IncDec, Cntp, Ptest, Pfalse, Setffr, Wrffr, Rdffr}
use Rattle.words.specs.declared.Target.TheVariants.{One, Pair, Counter}
use Rattle.words.specs.Layout.{fits}
use Rattle.words.specs.Words.{read_by, word_of}
use Rattle.words.proofs.RoundTrip.{read-written}
use Rattle.instructions.specs.Counter.{counter_of, counter_flags, count_end, expanded, while_counter_of, cntp_counter_of}
use Rattle.instructions.specs.Counts.{inc_dec_of, cntp_of}
use Rattle.instructions.specs.Ffr.{setffr_of}
use Rattle.instructions.specs.Instructions.{compute_of}
use Rattle.instructions.specs.Operands.{registers_of}
use Rattle.instructions.specs.Searches.{ptest_of}
use Rattle.instructions.specs.Whiles.{while_element, while_one_of, while_pair_of}
use Rattle.machine.specs.Execute.{apply, execute_of}
use Rattle.machine.specs.Step as Machine
use Rattle.walk.specs.Plain.{run}
use Rattle.walk.specs.Walk as Walk
use Rattle.walk.specs.Given.{GoodRegisters}
use Rattle.walk.specs.Lengths.{Typed}
use Rattle.shared.specs.declared.Kernel.{Kernel}
use Rattle.shared.specs.declared.Kernel.TheVariants.{First, Second}
use Rattle.shared.specs.declared.Shared.{Shared}
use Rattle.shared.specs.GivenWalk.{Owned, Accepted}
use Rattle.shared.specs.GivenWalk.Given.{illegal as row_4, bad as row_10, low as row_2, off as row_3, not_owned as row_15, short as row_11, spent as row_12, done as row_0}
use Rattle.shared.specs.Ownership.{may_name_x, may_name_p, may_name, may_walk}
use Rattle.shared.specs.Shared.{state_for, shared_after, after_word, step_of, refusal_of, walk_of}
use Rattle.shared.specs.Schedule.{Action, Turn, Alike, actions_of}
use Rattle.shared.specs.Schedule.Action.{step, walk}
use Rattle.shared.specs.Isolation.{Outcome, Commutes}
use Rattle.shared.proofs.Isolation.{isolation}
use Rattle.shared.proofs.Commuting.{commuting}
use Rattle.shared.proofs.Replies.{counter-not-first, counter-refused}
use Rattle.shared.proofs.Walks.{accepted_when, walk_exactly_when}

-- VL 128, level, access and X17 as given; P2 and P10 hold two words, FFR one byte, all else is zero
start : ℕ → Bool → ℕ → Shared
start level access x17 = record {
  state =
      made 128 level access (flags_of 0) (set (replicate 31 0) 17 x17)
      (set (set (set (replicate 17 all_false) 2 (pack (test_bit 0x0011))) 10 (pack (test_bit 0x0011))) 16 (pack (test_bit 1)));
  second = flags_of 0;
}

held : Shared
held = start 3 true 0

-- the replies to instructions, written as words, by the first kernel and by the second
replies : Shared → List Instruction → List (List ℕ)
replies s is = map (λ (i : Instruction). number_of (step_of First s (word_of i)).reply ∷ number_of (step_of Second s (word_of i)).reply ∷ []) is

-- the replies to walks of words from Xn to Xm, with lanes Pd and cursor Pk, no place and no budget
walks : Shared → List (ℕ × ℕ × ℕ × ℕ) → List (List ℕ)
walks s ws = map (λ (w : ℕ × ℕ × ℕ × ℕ). number_of (walk_of First 2 w.0 w.1 w.2 w.3 0 s []).reply ∷ number_of (walk_of Second 2 w.0 w.1 w.2 w.3 0 s []).reply ∷ []) ws

pub record Example : Type 0 where
  pub got : List (List ℕ)
  pub wanted : List (List ℕ)

-- INCP of X15 and of X16 by P7 and by P8, of X31; CNTP of P2 under P9; WHILELO from X31 to X16; the pair P6, P7 and the counter P8; WRFFR of P2 and RDFFR; then level 0 and access off; and walks
pub examples : List Example
examples =
    record {
      got = replies held (IncDec false Sz.S 7 15 ∷ IncDec false Sz.S 7 16 ∷ IncDec false Sz.S 8 16 ∷ IncDec false Sz.S 8 31 ∷ Cntp Sz.S 9 2 1 ∷ While Less true (One true 0) Sz.S 31 16 ∷ While Less true (Pair 3) Sz.S 1 2 ∷ While Less true (Counter false 0) Sz.S 31 31 ∷ Wrffr 2 ∷ Rdffr 0 ∷ []);
      wanted = (0 ∷ 15 ∷ []) ∷ (15 ∷ 15 ∷ []) ∷ (15 ∷ 0 ∷ []) ∷ (15 ∷ 0 ∷ []) ∷ (15 ∷ 15 ∷ []) ∷ (15 ∷ 15 ∷ []) ∷ (0 ∷ 15 ∷ []) ∷ (15 ∷ 0 ∷ []) ∷ (15 ∷ 15 ∷ []) ∷ (15 ∷ 15 ∷ []) ∷ [];
    }
    ∷ record { got = replies (start 0 true 0) (Wrffr 2 ∷ []); wanted = (2 ∷ 2 ∷ []) ∷ [] }
    ∷ record { got = replies (start 3 false 0) (Wrffr 2 ∷ []); wanted = (3 ∷ 3 ∷ []) ∷ [] }
    ∷ record { got = walks (start 3 true 5) ((1, 31, 0, 1) ∷ (16, 17, 8, 9) ∷ (16, 16, 8, 7) ∷ []); wanted = (12 ∷ 15 ∷ []) ∷ (15 ∷ 11 ∷ []) ∷ (10 ∷ 10 ∷ []) ∷ [] }
    ∷ record { got = walks (start 3 false 5) ((1, 17, 0, 1) ∷ []); wanted = (3 ∷ 3 ∷ []) ∷ [] }
    ∷ record { got = walks (start 4 true 5) ((1, 1, 0, 0) ∷ []); wanted = (4 ∷ 4 ∷ []) ∷ [] }
    ∷ []

pub as_wanted : map (λ e. e.got) examples ≡ map (λ e. e.wanted) examples
unfolding start held replies walks examples test_bit number element_bit count some after_last scan bit_at pack active spread elements predicate_length has_bit_from at_lowest at_highest pred_test nzcv flags_of has_all_registers is_length has_stray_bit all_counts counts_of same_counts has_wrong_count illegal with_x with_p with_flags read_by operand_at comparison all_held while_element counter_of counter_flags count_end expanded while_one_of while_pair_of while_counter_of cntp_counter_of inc_dec_of cntp_of ptest_of monotonic setffr_of compute_of apply execute_of may_name_x may_name_p may_name may_walk state_for shared_after after_word step_of refusal_of walk_of Walk.bad_registers run
as_wanted = refl

-- ---- what the theorems ask is met

held_kept : legal held.state ≡ true
unfolding start held test_bit number count some bit_at pack active elements predicate_length has_bit_from has_all_registers is_length has_stray_bit all_counts counts_of same_counts has_wrong_count illegal
held_kept = refl

-- another X17, P9 and flags of the second's
replaced : ℕ → ℕ → ℕ → Shared
replaced x17 p9 flags = record { state = with_p (with_x held.state 17 x17) 9 (pack (test_bit p9)); second = flags_of flags }

replaced_kept : legal (replaced 7 0x0111 0b1010).state ≡ true
unfolding replaced start held test_bit number count some bit_at pack active elements predicate_length has_bit_from has_all_registers is_length has_stray_bit all_counts counts_of same_counts has_wrong_count illegal with_x with_p
replaced_kept = refl

-- to the first kernel they are alike
replaced_alike : (x17 p9 flags : ℕ) → Alike First held (replaced x17 p9 flags)
unfolding replaced with_x with_p
replaced_alike x17 p9 flags = record {
  vl = refl;
  level = refl;
  access = refl;
  x = λ r h. sym (read_x-other held.state 17 r x17 (λ e. let l = ltb-true r 16 h in omega arith));
  p = λ r h. sym (read_p-other (with_x held.state 17 x17) 9 r (pack (test_bit p9)) (λ e. let l = ltb-true r 8 h in omega arith));
  flags = refl;
}

by_first : Action → Turn
by_first a = record { kernel = First; action = a }

by_second : Action → Turn
by_second a = record { kernel = Second; action = a }

count_words : Action
count_words = step (word_of (Cntp Sz.S 2 2 1))

walk_words : Action
walk_words = walk 2 3 1 4 5 100 (0 ∷ 0 ∷ [])

-- a count and a walk of the first's among words of the second's, and among others, refused ones in both
isolates : Outcome First held (replaced 7 0x0111 0b1010)
    (by_second (step (word_of (Pfalse 10))) ∷ by_first count_words ∷ by_first walk_words ∷ by_second (step (word_of Setffr)) ∷ [])
    (by_first count_words ∷ by_second (walk 2 16 17 8 9 100 (0 ∷ [])) ∷ by_second (step (word_of (Pfalse 2))) ∷ by_first walk_words ∷ [])
unfolding actions_of by_first by_second
isolates = isolation First held (replaced 7 0x0111 0b1010) _ _ held_kept replaced_kept (replaced_alike 7 0x0111 0b1010) refl

commutes : Commutes held count_words (step (word_of (Ptest 10 10)))
commutes = commuting held count_words (step (word_of (Ptest 10 10)))

-- PNd 7 is P15
counter_seconds : may_name First (registers_of (While Less true (Counter false 7) Sz.S 1 2)) ≡ false
unfolding fits
counter_seconds = counter-not-first Less true false 7 Sz.S 1 2 refl

counter-not_done : (step_of First held (word_of (While Less true (Counter false 7) Sz.S 1 2))).reply ≡ Ok tt → ⊥
unfolding fits
counter-not_done = counter-refused Less true false 7 Sz.S 1 2 held (word_of (While Less true (Counter false 7) Sz.S 1 2)) (omega arith) (read-written (While Less true (Counter false 7) Sz.S 1 2) refl)

-- what reply 10 asks of numbers, for words
good : (n m d k : ℕ) → n ≤ 30 → m ≤ 31 → d ≤ 15 → k ≤ 15 → (n ≡ m → ⊥) → (d ≡ k → ⊥) → GoodRegisters 2 n m d k
good n m d k hn hm hd hk x p = record { start = omega arith; limit = hm; lanes = hd; cursor = hk; element = omega arith; not_31 = λ e. omega arith; two_x = x; two_p = p }

-- from X16, which is 0, to X17, with lanes P8 and cursor P9: the second's own
numbers : GoodRegisters 2 16 17 8 9
numbers = good 16 17 8 9 (omega arith) (omega arith) (omega arith) (omega arith) (λ e. omega arith) (λ e. omega arith)

seconds_own : Owned Second 16 17 8 9
seconds_own = record { start = refl; limit = refl; lanes = refl; cursor = refl }

not_firsts : Owned First 16 17 8 9 → ⊥
not_firsts o = never o.start refl

-- to 5, with at least 5 places: the premises of demand 3 hold, and nothing is refused
premises : (places : ℕ) → 5 ≤ places → Accepted Second 2 16 17 8 9 (start 3 true 5) places
unfolding start test_bit number count some bit_at pack active elements predicate_length has_bit_from has_all_registers is_length has_stray_bit all_counts counts_of same_counts has_wrong_count illegal
premises places h = record { ordinary = record { legal_is = refl; registers = numbers; present = omega arith; on = refl; room = h }; owned = seconds_own }

accepts : (places : ℕ) → 5 ≤ places → refusal_of Second 2 16 17 8 9 (start 3 true 5) places ≡ Ok tt
accepts places h = (accepted_when Second 2 16 17 8 9 (start 3 true 5) places).0 (premises places h)

-- 31 is open to both as the limit
to_31 : refusal_of First 2 1 31 0 1 (start 3 true 5) 0 ≡ Ok tt
unfolding start test_bit number count some bit_at pack active elements predicate_length has_bit_from has_all_registers is_length has_stray_bit all_counts counts_of same_counts has_wrong_count illegal
to_31 =
    let registers = good 1 31 0 1 (omega arith) (omega arith) (omega arith) (omega arith) (λ e. omega arith) (λ e. omega arith) in
    let owned : Owned First 1 31 0 1 = record { start = refl; limit = refl; lanes = refl; cursor = refl } in
    (accepted_when First 2 1 31 0 1 (start 3 true 5) 0).0 (record { ordinary = record { legal_is = refl; registers = registers; present = omega arith; on = refl; room = omega arith }; owned = owned })

zeros : (n i : ℕ) → ◌≡◌ {A = ℕ} (get_or (replicate n 0) i 0) 0
zeros zero i = refl
zeros (suc n) zero = refl
zeros (suc n) (suc i) = zeros n i

typed : (level : ℕ) (access : Bool) (x17 : ℕ) → x17 < 2 ^ 64 → Typed (start level access x17).state
unfolding start
typed level access x17 h = record { fits = fits }
  where
    fits : (i : ℕ) → read_x (start level access x17).state i < 2 ^ 64
    fits i =
        elim (ℕ_discrete i 17) [
          | yes e ↦ rw e h
          | no n ↦ omega (arith, get_or-set_other (replicate 31 0) 17 i x17 0 n, zeros 31 i)
        ]

-- every row of a walk's table applies to some walk: 5 + 3 · 2 + 2 instructions and one less; a place too few; the other's registers; access off; level 0; one X register twice; a level that is none
each_reply : (l : List ℕ) → length l ≡ 5
    → ((walk_of Second 2 16 17 8 9 13 (start 3 true 5) l).reply ≡ Ok tt) × ((walk_of Second 2 16 17 8 9 12 (start 3 true 5) l).reply ≡ Err BudgetSpent)
    × ((walk_of Second 2 16 17 8 9 13 (start 3 true 6) l).reply ≡ Err ListTooShort) × ((walk_of First 2 16 17 8 9 13 (start 3 true 6) l).reply ≡ Err NotOwned)
    × ((walk_of First 2 16 17 8 9 13 (start 3 false 6) l).reply ≡ Err AccessOff) × ((walk_of First 2 16 17 8 9 13 (start 0 false 6) l).reply ≡ Err LevelTooLow)
    × ((walk_of First 2 16 16 8 9 13 (start 0 false 6) l).reply ≡ Err BadWalkRegisters) × ((walk_of First 2 16 16 8 9 13 (start 4 false 6) l).reply ≡ Err IllegalState)
unfolding start test_bit number count some bit_at pack active elements predicate_length has_bit_from has_all_registers is_length has_stray_bit all_counts counts_of same_counts has_wrong_count illegal Walk.bad_registers
each_reply l h = (
  (walk_exactly_when Second 2 16 17 8 9 13 (start 3 true 5) l (typed 3 true 5 (omega arith)) (Ok tt)).1 (row_0 (premises (length l) (omega arith)) (omega arith)),
  (walk_exactly_when Second 2 16 17 8 9 12 (start 3 true 5) l (typed 3 true 5 (omega arith)) (Err BudgetSpent)).1 (row_12 (premises (length l) (omega arith)) (omega arith)),
  (walk_exactly_when Second 2 16 17 8 9 13 (start 3 true 6) l (typed 3 true 6 (omega arith)) (Err ListTooShort)).1 (row_11 refl numbers (omega arith) refl seconds_own (omega arith)),
  (walk_exactly_when First 2 16 17 8 9 13 (start 3 true 6) l (typed 3 true 6 (omega arith)) (Err NotOwned)).1 (row_15 refl numbers (omega arith) refl not_firsts),
  (walk_exactly_when First 2 16 17 8 9 13 (start 3 false 6) l (typed 3 false 6 (omega arith)) (Err AccessOff)).1 (row_3 refl numbers (omega arith) refl),
  (walk_exactly_when First 2 16 17 8 9 13 (start 0 false 6) l (typed 0 false 6 (omega arith)) (Err LevelTooLow)).1 (row_2 refl numbers refl),
  (walk_exactly_when First 2 16 16 8 9 13 (start 0 false 6) l (typed 0 false 6 (omega arith)) (Err BadWalkRegisters)).1 (row_10 refl refl),
  (walk_exactly_when First 2 16 16 8 9 13 (start 4 false 6) l (typed 4 false 6 (omega arith)) (Err IllegalState)).1 (row_4 refl),
)

-- ---- why each rule is needed: without owners, what is alike to a kernel does not decide

-- a word executed for a kernel, whoever owns its registers
unowned : Kernel → Shared → Instruction → Shared
unowned who s i = shared_after who s (Machine.step_of (state_for who s) (word_of i)).state

low : Shared → ℕ → ℕ
low s r = get_or (read_p s.state r).words 0 0

-- of the first kernel's P0, X1, X1, in `held` and in a state that is alike to it: a source X of the second's, a mask, a source P;
-- of its X1, P2, P0 and flags, without and with a word of the second's before: a target X, a target P, FFR, and flags that are not kept apart
pub needed : List Example
needed =
    record {
      got = map (λ (s : Shared). low (unowned First s (While Less true (One true 0) Sz.S 31 17)) 0 ∷ read_x (unowned First s (Cntp Sz.S 9 2 1)).state 1 ∷ read_x (unowned First s (Cntp Sz.S 2 9 1)).state 1 ∷ []) (held ∷ replaced 1 0x0001 0 ∷ []);
      wanted = (0 ∷ 0 ∷ 0 ∷ []) ∷ (1 ∷ 1 ∷ 1 ∷ []) ∷ [];
    }
    ∷ record { got = (read_x held.state 1 ∷ []) ∷ (read_x (unowned Second held (IncDec false Sz.S 10 1)).state 1 ∷ []) ∷ []; wanted = (0 ∷ []) ∷ (2 ∷ []) ∷ [] }
    ∷ record { got = (low held 2 ∷ []) ∷ (low (unowned Second held (Pfalse 2)) 2 ∷ []) ∷ []; wanted = (0x0011 ∷ []) ∷ (0 ∷ []) ∷ [] }
    ∷ record { got = (low (unowned First held (Rdffr 0)) 0 ∷ []) ∷ (low (unowned First (unowned Second held Setffr) (Rdffr 0)) 0 ∷ []) ∷ []; wanted = (0x0001 ∷ []) ∷ (0xFFFF ∷ []) ∷ [] }
    ∷ record { got = (nzcv held.state.flags ∷ []) ∷ (nzcv (Machine.step_of held.state (word_of (Ptest 10 10))).state.flags ∷ []) ∷ []; wanted = (0 ∷ []) ∷ (0b1000 ∷ []) ∷ [] }
    ∷ []

pub needed_as_wanted : map (λ e. e.got) needed ≡ map (λ e. e.wanted) needed
unfolding start held replaced unowned low needed test_bit number element_bit count some after_last scan bit_at pack active spread elements predicate_length has_bit_from at_lowest at_highest pred_test nzcv flags_of has_all_registers is_length has_stray_bit all_counts counts_of same_counts has_wrong_count illegal with_x with_p with_flags read_by operand_at comparison all_held while_element while_one_of inc_dec_of cntp_of ptest_of monotonic setffr_of compute_of apply execute_of Machine.after_word Machine.step_of state_for shared_after
needed_as_wanted = refl
