-- Demand 3's hypotheses are met, and the walk is what it says: bytes from 5 to 42 at VL 128, where three vectors are crossed, and at VL 512; and a whole walk of doublewords by computation. So are those about budgets.
use Rattle.std.specs.Prelude.{Ok, Err}
use Rattle.std.proofs.Common.{◌≡◌, ℕ, zero, suc, ◌+◌, ◌-◌, ◌^◌, ◌<◌, ◌≤◌, Bool, true, false, List, [], ◌∷◌, length, get_or, take, drop, set, replicate, sym, refl, ap, ◌∙◌, arith}
use Rattle.bits.specs.declared.Size.TheVariants as Sz
use Rattle.bits.specs.Bits.{test_bit, number, element_bit}
use Rattle.bits.specs.Search.{count, some, after_last, scan}
use Rattle.predicates.specs.PredTest.{at_lowest, at_highest, pred_test, nzcv, flags_of}
use Rattle.predicates.specs.Predicate.{bit_at, pack, active, spread, elements, predicate_length, has_bit_from, all_false}
use Rattle.replies.specs.declared.Refusal.TheVariants.{LevelTooLow, AccessOff, IllegalState, BadWalkRegisters, ListTooShort, BudgetSpent}
use Rattle.registers.specs.declared.State.{State}
use Rattle.registers.specs.Legal.{has_all_registers, is_length, has_stray_bit, has_wrong_count, legal}
use Rattle.registers.specs.Legal as Legal
use Rattle.tally.specs.Counts.{counts_of, same_counts}
use Rattle.registers.specs.State.{all_counts, made, counted, read_x, read_p, with_x, with_p, with_flags}
use Rattle.scalars.specs.declared.Condition.TheVariants.{Less}
use Rattle.words.specs.declared.Instruction.TheVariants.{While, IncDec, Pnext, Pfalse}
use Rattle.words.specs.declared.Target.TheVariants.{One}
use Rattle.machine.specs.Execute.{apply, execute_of}
use Rattle.instructions.specs.Counts.{inc_dec_of}
use Rattle.instructions.specs.Instructions.{compute_of}
use Rattle.instructions.specs.Searches.{pnext_of}
use Rattle.instructions.specs.Whiles.{while_element, while_one_of}
use Rattle.scalars.specs.While.{operand_at, comparison, all_held}
use Rattle.walk.specs.declared.Phase.{Phase}
use Rattle.walk.specs.declared.Phase.TheVariants as P
use Rattle.walk.specs.Budgets.{Adds, SameResults}
use Rattle.walk.specs.Demand.{needed}
use Rattle.walk.specs.Given.{GoodRegisters, Accepted}
use Rattle.walk.specs.Given.Given.{illegal, bad, low, off, short, spent, done}
use Rattle.walk.specs.Plain.{Walk, run}
use Rattle.walk.specs.Resumed.{grown, Resumes}
use Rattle.walk.specs.Steps.{IsStep}
use Rattle.walk.specs.Walk.{instruction_at, instructions_of, plain_walk, position_at, bad_registers, refusal_of, walk_of, whole_of}
use Rattle.walk.specs.Lengths.{Typed, Wrote}
use Rattle.walk.proofs.Accepted.{accepted_when}
use Rattle.walk.proofs.Budgets.{larger_budget, enough_same, refused-same}
use Rattle.walk.proofs.Kept.{walk-counted}
use Rattle.walk.proofs.Lengths.{two_lengths}
use Rattle.walk.proofs.Replies.{walk_exactly_when}
use Rattle.walk.proofs.Resumed.{resumed}
use Rattle.walk.proofs.Steps.{walk_steps}

-- level, access and X2 as given, X1 is 5, all else zero; and the same at level 1 with access on
abbrev pub state : ℕ → ℕ → Bool → ℕ → State
state vl level access x2 = made vl level access (flags_of 0) (set (set (replicate 31 0) 1 5) 2 x2) (replicate 17 all_false)

abbrev pub start : ℕ → ℕ → State
start vl x2 = state vl 1 true x2

-- X1 to X2, lanes P0, cursor P1
numbers : (size : ℕ) → size ≤ 3 → GoodRegisters size 1 2 0 1
numbers size h = record {
  start = omega arith;
  limit = omega arith;
  lanes = omega arith;
  cursor = omega arith;
  element = h;
  not_31 = λ e. omega arith;
  two_x = λ e. omega arith;
  two_p = λ e. omega arith;
}

legal_128 : (access : Bool) (x2 : ℕ) → legal (state 128 1 access x2) ≡ true
unfolding flags_of Legal.illegal has_all_registers is_length has_stray_bit has_wrong_count same_counts all_counts counts_of count active elements some has_bit_from predicate_length bit_at pack number test_bit
legal_128 access x2 = refl

legal_512 : (x2 : ℕ) → legal (start 512 x2) ≡ true
unfolding flags_of Legal.illegal has_all_registers is_length has_stray_bit has_wrong_count same_counts all_counts counts_of count active elements some has_bit_from predicate_length bit_at pack number test_bit
legal_512 x2 = refl

-- bytes, at least 37 places: the premises of demand 3 hold, and nothing is refused
premises : (vl places : ℕ) → legal (start vl 42) ≡ true → 37 ≤ places → Accepted 0 1 2 0 1 (start vl 42) places
premises vl places ok h = record { legal_is = ok; registers = numbers 0 (omega arith); present = omega arith; on = refl; room = h }

pub accepted_128 : (places : ℕ) → 37 ≤ places → refusal_of 0 1 2 0 1 (start 128 42) places ≡ Ok tt
accepted_128 places h = (accepted_when 0 1 2 0 1 (start 128 42) places).0 (premises 128 places (legal_128 true 42) h)

pub accepted_512 : (places : ℕ) → 37 ≤ places → refusal_of 0 1 2 0 1 (start 512 42) places ≡ Ok tt
accepted_512 places h = (accepted_when 0 1 2 0 1 (start 512 42) places).0 (premises 512 places (legal_512 42) h)

-- 37 + 3 · 3 + 2 instructions with 16 lanes, 37 + 3 + 2 with 64
pub needed_128 : needed Sz.B 1 2 (start 128 42) ≡ 48
unfolding elements predicate_length
needed_128 = refl

pub needed_512 : needed Sz.B 1 2 (start 512 42) ≡ 42
unfolding elements predicate_length
needed_512 = refl

zeros : (n i : ℕ) → ◌≡◌ {A = ℕ} (get_or (replicate n 0) i 0) 0
zeros zero i = refl
zeros (suc n) zero = refl
zeros (suc n) (suc i) = zeros n i

typed : (vl level : ℕ) (access : Bool) (x2 : ℕ) → x2 < 2 ^ 64 → Typed (state vl level access x2)
typed vl level access x2 h = record { fits = fits }
  where
    fits : (i : ℕ) → read_x (state vl level access x2) i < 2 ^ 64
    fits zero = omega arith
    fits (suc zero) = omega arith
    fits (suc (suc zero)) = h
    fits (suc (suc (suc i))) = omega (arith, zeros 28 i)

-- with 48 instructions at VL 128, and with 42 at VL 512, both walks write 5, 6, .., 41 and nothing else, and leave the same list
module _ (l : List ℕ) (room : 37 ≤ length l) where
  abbrev at_128 : Walk State
  at_128 = whole_of 0 1 2 0 1 48 (start 128 42) l

  abbrev at_512 : Walk State
  at_512 = whole_of 0 1 2 0 1 42 (start 512 42) l

  pub both_lengths : Wrote 5 37 l at_128 × Wrote 5 37 l at_512 × (at_128.list ≡ at_512.list)
  unfolding elements predicate_length
  both_lengths =
      two_lengths 0 1 2 0 1 l 48 42 (start 128 42) (start 512 42) (typed 128 1 true 42 (omega arith)) (typed 512 1 true 42 (omega arith)) (accepted_128 (length l) room) (accepted_512 (length l) room) refl refl (omega arith) (omega arith)

-- doublewords from 5 to 8 with 2 lanes: 3 + 3 · 2 + 2 instructions
pub walked_whole : (plain_walk Sz.D 1 2 0 1 11 (start 128 8) (0 ∷ 0 ∷ 0 ∷ 7 ∷ [])).list ≡ 5 ∷ 6 ∷ 7 ∷ 7 ∷ []
unfolding run position_at execute_of compute_of while_one_of pnext_of inc_dec_of apply with_x with_p all_counts counts_of with_flags flags_of nzcv pred_test at_lowest at_highest
    while_element all_held comparison operand_at elements predicate_length spread element_bit pack number active bit_at test_bit count some after_last scan
walked_whole = refl

-- what `walk_steps` asks is met: PFALSE, WHILELO, PNEXT and INCP of that walk, and its eleventh instruction, are steps of their words
module _ (l : List ℕ) (room : 3 ≤ length l) where
  abbrev after : ℕ → State
  after b = (plain_walk Sz.D 1 2 0 1 b (start 128 8) l).state

  accepted_whole : refusal_of 3 1 2 0 1 (start 128 8) (length l) ≡ Ok tt
  accepted_whole = (accepted_when 3 1 2 0 1 (start 128 8) (length l)).0 (record { legal_is = legal_128 true 8; registers = numbers 3 (omega arith); present = omega arith; on = refl; room = room })

  pub all_steps : IsStep (Pfalse 1) (after 0) (after 1) × IsStep (While Less true (One true 0) Sz.D 1 2) (after 1) (after 2) × IsStep (Pnext Sz.D 0 1) (after 2) (after 3)
      × IsStep (IncDec false Sz.D 0 1) (after 5) (after 6) × IsStep (While Less true (One true 0) Sz.D 1 2) (after 10) (after 11)
  unfolding run position_at execute_of compute_of while_one_of pnext_of inc_dec_of apply with_x with_p all_counts counts_of with_flags flags_of nzcv pred_test at_lowest at_highest
      while_element all_held comparison operand_at elements predicate_length spread element_bit pack number active bit_at test_bit count some after_last scan
  all_steps = (step 0 refl, step 1 refl, step 2 refl, step 5 refl, step 10 refl)
    where
      step : (b : ℕ) → (plain_walk Sz.D 1 2 0 1 b (start 128 8) l).ended ≡ false → IsStep (instruction_at Sz.D 1 2 0 1 (plain_walk Sz.D 1 2 0 1 b (start 128 8) l).next) (after b) (after (b + 1))
      step = walk_steps 3 1 2 0 1 (start 128 8) l accepted_whole

-- what `walk-counted` asks is met: spent after five instructions, the counts are those of the registers
stays_counted : (l : List ℕ) → counted (walk_of 0 1 2 0 1 5 (start 128 42) l).state ≡ (walk_of 0 1 2 0 1 5 (start 128 42) l).state
unfolding flags_of Legal.illegal has_all_registers is_length has_stray_bit has_wrong_count same_counts all_counts counts_of count active elements some has_bit_from predicate_length bit_at pack number test_bit
stays_counted l = walk-counted 0 1 2 0 1 5 (start 128 42) l refl

-- every row of the table applies to some walk: budgets of 48 and 47; a place too few; access off; level 0; one X register twice; a length that is none of the five
pub each_reply : (l : List ℕ) → length l ≡ 37
    → ((walk_of 0 1 2 0 1 48 (start 128 42) l).reply ≡ Ok tt) × ((walk_of 0 1 2 0 1 47 (start 128 42) l).reply ≡ Err BudgetSpent) × ((walk_of 0 1 2 0 1 48 (start 128 43) l).reply ≡ Err ListTooShort)
    × ((walk_of 0 1 2 0 1 48 (state 128 1 false 43) l).reply ≡ Err AccessOff) × ((walk_of 0 1 2 0 1 48 (state 128 0 false 43) l).reply ≡ Err LevelTooLow)
    × ((walk_of 0 1 1 0 1 48 (state 128 0 false 43) l).reply ≡ Err BadWalkRegisters) × ((walk_of 0 1 1 0 1 48 (state 100 0 false 43) l).reply ≡ Err IllegalState)
unfolding flags_of bad_registers Legal.illegal has_all_registers is_length has_stray_bit has_wrong_count same_counts all_counts counts_of count active elements some has_bit_from predicate_length bit_at pack number test_bit
each_reply l h =
    let good = numbers 0 (omega arith) in (
      (walk_exactly_when 0 1 2 0 1 48 (start 128 42) l (typed 128 1 true 42 (omega arith)) (Ok tt)).1 (done (premises 128 (length l) refl (omega arith)) (omega arith)),
      (walk_exactly_when 0 1 2 0 1 47 (start 128 42) l (typed 128 1 true 42 (omega arith)) (Err BudgetSpent)).1 (spent (premises 128 (length l) refl (omega arith)) (omega arith)),
      (walk_exactly_when 0 1 2 0 1 48 (start 128 43) l (typed 128 1 true 43 (omega arith)) (Err ListTooShort)).1 (short refl good (omega arith) refl (omega arith)),
      (walk_exactly_when 0 1 2 0 1 48 (state 128 1 false 43) l (typed 128 1 false 43 (omega arith)) (Err AccessOff)).1 (off refl good (omega arith) refl),
      (walk_exactly_when 0 1 2 0 1 48 (state 128 0 false 43) l (typed 128 0 false 43 (omega arith)) (Err LevelTooLow)).1 (low refl good refl),
      (walk_exactly_when 0 1 1 0 1 48 (state 128 0 false 43) l (typed 128 0 false 43 (omega arith)) (Err BadWalkRegisters)).1 (bad refl refl),
      (walk_exactly_when 0 1 1 0 1 48 (state 100 0 false 43) l (typed 100 0 false 43 (omega arith)) (Err IllegalState)).1 (illegal refl),
    )

-- ---- two budgets: bytes from 5 to 42 at VL 128

-- what `larger_budget` and `enough_same` ask is met
module _ (l : List ℕ) (room : length l ≡ 37) where
  abbrev under : ℕ → Walk State
  under b = whole_of 0 1 2 0 1 b (start 128 42) l

  two_budgets : (a b : ℕ) → a ≤ b → Adds (instructions_of Sz.B 1 2 0 1) (start 128 42) l (under a) (under b)
  two_budgets = larger_budget 0 1 2 0 1 (start 128 42) l (accepted_128 (length l) (omega arith))

  four_and_six : Adds (instructions_of Sz.B 1 2 0 1) (start 128 42) l (under 4) (under 6)
  four_and_six = two_budgets 4 6 (omega arith)

  -- the last instruction: 12 and 0
  last_two : Adds (instructions_of Sz.B 1 2 0 1) (start 128 42) l (under 47) (under 48)
      × ((walk_of 0 1 2 0 1 47 (start 128 42) l).reply ≡ Err BudgetSpent) × ((walk_of 0 1 2 0 1 48 (start 128 42) l).reply ≡ Ok tt)
  last_two = (two_budgets 47 48 (omega arith), (each_reply l room).1, (each_reply l room).0)

  -- 48 are as good as all
  all_the_same : SameResults 0 1 2 0 1 48 (2 ^ 64 - 1) (start 128 42) l
  unfolding elements predicate_length
  all_the_same = enough_same 0 1 2 0 1 (start 128 42) l (accepted_128 (length l) (omega arith)) (typed 128 1 true 42 (omega arith)) 48 (2 ^ 64 - 1) (omega arith) (omega arith)

-- and `refused-same`: a list of 36 places is too short, whatever the budgets
short_whatever : (l : List ℕ) → length l ≡ 36 → SameResults 0 1 2 0 1 4 (2 ^ 64 - 1) (start 128 42) l
short_whatever l h = refused-same 0 1 2 0 1 (start 128 42) l (λ e. let a = ((accepted_when 0 1 2 0 1 (start 128 42) (length l)).1 e).room in omega arith) 4 (2 ^ 64 - 1)

-- of a computed walk: the instruction to come, how many positions it has, the first places of the list, the bits of its cursor
record Seen : Type 0 where
  next : Phase
  visited : ℕ
  places : List ℕ
  cursor : ℕ

seen : Walk State → Seen
seen w = record { next = w.next; visited = w.visited; places = take 5 w.list; cursor = get_or (read_p w.state 1).words 0 0 }

-- with places that hold no position, under so many instructions
bytes : ℕ → Walk State
bytes b = plain_walk Sz.B 1 2 0 1 b (start 128 42) (replicate 37 99)

-- a walk begun again from what another has left
again : ℕ → Walk State → Walk State
again b w = plain_walk Sz.B 1 2 0 1 b w.state w.list

-- 4 and 6 end between two PNEXTs, and the first two of the larger's four positions are the smaller's. Begun again after 4, with the 2 that are left, it has none, and with 4 it has 5 and 6 again
computed : (seen (bytes 4) ≡ record { next = P.Pnext; visited = 2; places = 5 ∷ 6 ∷ 99 ∷ 99 ∷ 99 ∷ []; cursor = 0b10 })
    × (seen (bytes 6) ≡ record { next = P.Pnext; visited = 4; places = 5 ∷ 6 ∷ 7 ∷ 8 ∷ 99 ∷ []; cursor = 0b1000 })
    × (seen (again 2 (bytes 4)) ≡ record { next = P.Pnext; visited = 0; places = 5 ∷ 6 ∷ 99 ∷ 99 ∷ 99 ∷ []; cursor = 0 })
    × (seen (again 4 (bytes 4)) ≡ record { next = P.Pnext; visited = 2; places = 5 ∷ 6 ∷ 99 ∷ 99 ∷ 99 ∷ []; cursor = 0b10 })
unfolding seen bytes again run position_at execute_of compute_of while_one_of pnext_of inc_dec_of apply with_x with_p all_counts counts_of with_flags flags_of nzcv pred_test at_lowest at_highest
    while_element all_held comparison operand_at elements predicate_length spread element_bit pack number active bit_at test_bit count some after_last scan
computed = (refl, refl, refl, refl)

-- what is not claimed: the smaller's state is not the larger's
not_the_larger : (bytes 4).state ≡ (bytes 6).state → ⊥
unfolding seen
not_the_larger e =
    let bits : State → ℕ = λ s. get_or (read_p s 1).words 0 0 in
    let z : ◌≡◌ {A = ℕ} 0b10 0b1000 = sym (ap (λ (x : Seen). x.cursor) computed.0) ∙ ap bits e ∙ ap (λ (x : Seen). x.cursor) computed.1 in
    omega arith

-- nor is a walk that is begun again, with the budget that is left, the larger one
not_begun_again : again 2 (bytes 4) ≡ bytes 6 → ⊥
not_begun_again e =
    let z : ◌≡◌ {A = ℕ} 0 4 = sym (ap (λ (x : Seen). x.visited) computed.2) ∙ ap (λ (w : Walk State). (seen w).visited) e ∙ ap (λ (x : Seen). x.visited) computed.1 in
    omega arith

-- ---- taken up again: doublewords from 5 to 8, after 7 of 11 instructions

-- what `resumed` asks is met
taken_up : (l : List ℕ) → 3 ≤ length l → Resumes 3 1 2 0 1 7 (start 128 8) l (whole_of 3 1 2 0 1 7 (start 128 8) l)
taken_up l room = resumed 3 1 2 0 1 (start 128 8) l (typed 128 1 true 8 (omega arith)) (accepted_whole l room) 7

-- X1 is 7, so that one position is left: 1 + 3 + 2 instructions, with the list's part from place 2 on
one_left : let v = plain_walk Sz.D 1 2 0 1 7 (start 128 8) (0 ∷ 0 ∷ 0 ∷ 9 ∷ []) in
    (grown 1 (start 128 8) v.state ≡ 2) × (needed Sz.D 1 2 v.state ≡ 6) × ((plain_walk Sz.D 1 2 0 1 6 v.state (drop 2 v.list)).list ≡ 7 ∷ 9 ∷ [])
unfolding run position_at execute_of compute_of while_one_of pnext_of inc_dec_of apply with_x with_p all_counts counts_of with_flags flags_of nzcv pred_test at_lowest at_highest
    while_element all_held comparison operand_at elements predicate_length spread element_bit pack number active bit_at test_bit count some after_last scan
one_left = (refl, refl, refl)
