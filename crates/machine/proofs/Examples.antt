-- Document 01's fourteen examples and document 02's, at VL 128, computed from the definitions that the contracts of `step` and `decode` cite.
use Rattle.std.specs.Prelude.{Result}
use Rattle.std.specs.Prelude.{Ok, Err}
use Rattle.replies.specs.declared.Refusal.{Refusal}
use Rattle.replies.specs.Reply.{number_of}
use mathlib.Core.Bool.{true, false}
use mathlib.Core.List.{List, [], ◌∷◌, ◌++◌, map}
use mathlib.Core.Path.{◌≡◌, refl}
use Prim.Native.Nat.{ℕ, ◌-◌, ◌^◌}
use native.Mathlib.Omega.{arith}
use lib.ListN.{set, replicate}
use Rattle.bits.specs.declared.Size.TheVariants as Sz
use Rattle.bits.specs.Bits.{test_bit, number, element_bit}
use Rattle.bits.specs.Search.{count, some, after_last, scan}
use Rattle.predicates.specs.PredTest.{at_lowest, at_highest, pred_test, nzcv, flags_of}
use Rattle.predicates.specs.Predicate.{bit_at, pack, active, spread, elements, predicate_length, has_bit_from, monotonic, all_false}
use Rattle.tally.specs.declared.Counts.{Counts}
use Rattle.tally.specs.Counts.{true_elements, counts_of, same_counts}
use Rattle.registers.specs.declared.State.{State}
use Rattle.registers.specs.Legal.{has_all_registers, is_length, has_stray_bit, has_wrong_count, illegal}
use Rattle.registers.specs.State.{all_counts, made, counted, read_x, read_p, read_counts, with_x, with_p, with_flags}
use Rattle.scalars.specs.declared.Condition.TheVariants.{Less, LessEqual, GreaterEqual, Greater}
use Rattle.words.specs.declared.Instruction.{Instruction}
use Rattle.words.specs.declared.Instruction.TheVariants.{While, Saturating, IncDec, CntpCounter, Pnext, Ptest, Pfalse, Setffr, Wrffr, Rdffr, RdffrPg, RdffrsPg}
use Rattle.words.specs.declared.Target.TheVariants.{One, Pair, Counter}
use Rattle.words.specs.Words.{read_by, decode_of, word_of, fields_of}
use Rattle.instructions.specs.Counter.{counter_of, counter_flags, count_end, expanded, while_counter_of, cntp_counter_of}
use Rattle.instructions.specs.Counts.{inc_dec_of, saturating_of}
use Rattle.instructions.specs.Ffr.{setffr_of, under_mask, rdffrs_pg_of}
use Rattle.instructions.specs.Instructions.{compute_of}
use Rattle.instructions.specs.Operands.{registers_of}
use Rattle.instructions.specs.Searches.{pnext_of, ptest_of}
use Rattle.instructions.specs.Whiles.{while_element, while_one_of, while_pair_of}
use Rattle.instructions.specs.Readings.{expanded_to14}
use Rattle.scalars.specs.Saturate.{clamp, saturating}
use Rattle.scalars.specs.While.{operand_at, comparison, all_held}
use Rattle.machine.specs.declared.Stepped.{Stepped}
use Rattle.machine.specs.Execute.{values_of, apply, execute_of}
use Rattle.machine.specs.Step.{after_word, step_of}
use Rattle.machine.proofs.Counters.{counter-reads_alike}
use Rattle.machine.proofs.Counts.{step-counted, inc_dec_counts}

-- VL 128, level 3, access on; X1 and X2, P0 and P1 as given, all else zero
start : ℕ → ℕ → ℕ → ℕ → State
start x1 x2 p0 p1 =
    made 128 3 true (flags_of 0) (set (set (replicate 31 0) 1 x1) 2 x2) (set (set (replicate 17 all_false) 0 (pack (test_bit p0))) 1 (pack (test_bit p1)))

-- what is looked at after a step: the reply, NZCV, X1, and the words of P0, P1 and P8
seen : Stepped → List ℕ
seen t = number_of t.reply ∷ nzcv t.state.flags ∷ read_x t.state 1 ∷ (read_p t.state 0).words ++ (read_p t.state 1).words ++ (read_p t.state 8).words

-- the instruction written as a word, and the word stepped
after : State → Instruction → List ℕ
after s i = seen (step_of s (word_of i))

-- accepted, with these flags, X1, and low words of P0, P1 and P8
gives : ℕ → ℕ → ℕ → ℕ → ℕ → List ℕ
gives flags x p0 p1 p8 = 0 ∷ flags ∷ x ∷ p0 ∷ 0 ∷ 0 ∷ 0 ∷ p1 ∷ 0 ∷ 0 ∷ 0 ∷ p8 ∷ 0 ∷ 0 ∷ 0 ∷ []

-- an instruction that a word was read as
read : Result Instruction Refusal → List ℕ
read (Ok i) = word_of i ∷ fields_of i
read (Err r) = []

-- an example of document 01 by its number there, or of a request of document 02 by the request's
pub record Example : Type 0 where
  pub document : ℕ
  pub number : ℕ
  pub got : List ℕ
  pub wanted : List ℕ

base : ℕ → List ℕ → List ℕ → Example
base n got wanted = record { document = 1; number = n; got = got; wanted = wanted }

request : ℕ → List ℕ → List ℕ → Example
request n got wanted = record { document = 2; number = n; got = got; wanted = wanted }

-- WHILE of X1 and X2: into P0, into P0 and P1, or into P8
one : Instruction → ℕ → ℕ → List ℕ
one i a b = after (start a b 0 0) i

-- access off, the level and P1 as given, all else zero
barred : ℕ → ℕ → State
barred level p1 = made 128 level false (flags_of 0) (replicate 31 0) (set (replicate 17 all_false) 1 (pack (test_bit p1)))

-- with FFR as given, what the first instruction and then the second leave
first_fault : ℕ → ℕ → Instruction → Instruction → List ℕ
first_fault ffr p1 i j = after (step_of (with_p (start 0 0 0 p1) 16 (pack (test_bit ffr))) (word_of i)).state j

-- the replies to WRFFR P1, with each of these in it
written : List ℕ → List ℕ
written ps = map (λ (p : ℕ). number_of (step_of (start 0 0 0 p) (word_of (Wrffr 1))).reply) ps

-- the replies to words in a state
replies : State → List ℕ → List ℕ
replies s ws = map (λ (w : ℕ). number_of (step_of s w).reply) ws

-- the counts beside a register, B first
kept : State → ℕ → List ℕ
kept s r = let c = read_counts s r in c.b ∷ c.h ∷ c.s ∷ c.d ∷ []

-- P0 and P1 as given and their counts as kept after an instruction
counts : ℕ → ℕ → Instruction → List ℕ
counts p0 p1 i = let t = (step_of (start 0 0 p0 p1) (word_of i)).state in kept t 0 ++ kept t 1

-- the replies to PFALSE P2 with these counts beside P1, which holds 0x0111
trusted : List Counts → List ℕ
trusted cs = map (λ (c : Counts). number_of (step_of (record { vl = s.vl; level = s.level; access = s.access; flags = s.flags; x = s.x; p = s.p; counts = set s.counts 1 c }) (word_of (Pfalse 2))).reply) cs
  where
    s : State
    s = start 0 0 0 0x0111

four : ℕ → ℕ → ℕ → ℕ → Counts
four b h s d = record { b = b; h = h; s = s; d = d }

-- request 6: counts before and after PFALSE, PNEXT and the pair WHILE, which X1 and X2 of 0 make false; right counts, and each wrong by one
-- request 5: SETFFR, and WRFFR of a run, each read by RDFFR; RDFFR under Pg without flags and with them; WRFFR of runs, empty and full, and of others; at level 0; and of no run where access is off, which comes first
-- request 4, at level 0 with access off: zero, and WHILELE with bit 31; BRKA, and SEL with S = 1; and WHILELE, which is ours
pub examples : List Example
examples =
    base 1 (one (While Less true (One true 0) Sz.S 1 2) 10 13) (gives 0b1010 10 0x0111 0 0)
    ∷ base 2 (one (While LessEqual false (One true 0) Sz.B 1 2) (2 ^ 63 - 2) (2 ^ 63 - 1)) (gives 0b1000 (2 ^ 63 - 2) 0xFFFF 0 0)
    ∷ base 3 (one (While Less false (One true 0) Sz.B 1 2) (2 ^ 63 - 2) (2 ^ 63 - 1)) (gives 0b1010 (2 ^ 63 - 2) 0x0001 0 0)
    ∷ base 4 (one (While Greater true (One true 0) Sz.H 1 2) 5 2) (gives 0b0000 5 0x5400 0 0)
    ∷ base 5 (one (While Greater true (Pair 0) Sz.D 1 2) 3 2) (gives 0b0000 3 0x0000 0x0100 0)
    ∷ base 6 (one (While GreaterEqual true (One true 0) Sz.S 1 2) 0 0) (gives 0b1000 0 0x1111 0 0)
    ∷ base 7 (one (While LessEqual false (Counter false 0) Sz.S 1 2) 0 2) (gives 0b1010 0 0 0 0x001C)
    ∷ base 8 (one (While LessEqual false (Counter false 0) Sz.S 1 2) 0 7) (gives 0b1000 0 0 0 0x8004)
    ∷ base 9 (one (While Greater false (Counter false 0) Sz.S 1 2) 3 0) (gives 0b0000 3 0 0 0x802C)
    ∷ base 10 (after (start 0 0 0 0x0024) (Pnext Sz.B 1 0)) (gives 0b1010 0 0x0004 0x0024 0)
    ∷ base 10 (after (start 0 0 0x0004 0x0024) (Pnext Sz.B 1 0)) (gives 0b0000 0 0x0020 0x0024 0)
    ∷ base 10 (after (start 0 0 0x0020 0x0024) (Pnext Sz.B 1 0)) (gives 0b0110 0 0x0000 0x0024 0)
    ∷ base 11 (after (start 0 0 0 0x0022) (Pnext Sz.S 1 0)) (gives 0b0110 0 0x0000 0x0022 0)
    ∷ base 12 (after (start 0xFFFFFFFF80000001 0 0 0x0007) (Saturating true false false Sz.B 1 1)) (gives 0b0000 0xFFFFFFFF80000000 0 0x0007 0)
    ∷ base 13 (after (start (2 ^ 64 - 1) 0 0 0x0003) (IncDec false Sz.B 1 1)) (gives 0b0000 1 0 0x0003 0)
    ∷ base 14 (read (decode_of 0x25A24438)) (read (Ok (While LessEqual false (Counter false 0) Sz.S 1 2)))
    ∷ base 14 (read (decode_of 0x25E55893)) (read (Ok (While Greater true (Pair 1) Sz.D 4 5)))
    ∷ base 14 (read (decode_of 0x252A8C23)) (read (Ok (Saturating true false true Sz.B 1 3)))
    ∷ request 2 (after (with_p (start 9 0 0 0) 8 (pack (test_bit 0x0081))) (CntpCounter true Sz.B 8 1)) (gives 0b0000 0 0 0 0x0081)
    ∷ request 6 (counts 0x00F1 0x0111 (Ptest 0 1)) (5 ∷ 3 ∷ 2 ∷ 1 ∷ 3 ∷ 3 ∷ 3 ∷ 2 ∷ [])
    ∷ request 6 (counts 0x00F1 0x0111 (Pfalse 0)) (0 ∷ 0 ∷ 0 ∷ 0 ∷ 3 ∷ 3 ∷ 3 ∷ 2 ∷ [])
    ∷ request 6 (counts 0x0010 0x0111 (Pnext Sz.B 1 0)) (1 ∷ 1 ∷ 1 ∷ 1 ∷ 3 ∷ 3 ∷ 3 ∷ 2 ∷ [])
    ∷ request 6 (counts 0x00F1 0x0111 (While Less true (Pair 0) Sz.B 1 2)) (0 ∷ 0 ∷ 0 ∷ 0 ∷ 0 ∷ 0 ∷ 0 ∷ 0 ∷ [])
    ∷ request 6 (trusted (four 3 3 3 2 ∷ four 4 3 3 2 ∷ four 3 2 3 2 ∷ four 3 3 4 2 ∷ four 3 3 3 1 ∷ [])) (0 ∷ 4 ∷ 4 ∷ 4 ∷ 4 ∷ [])
    ∷ request 5 (first_fault 0x0005 0 Setffr (Rdffr 0)) (gives 0b0000 0 0xFFFF 0 0)
    ∷ request 5 (first_fault 0x0005 0x000F (Wrffr 1) (Rdffr 0)) (gives 0b0000 0 0x000F 0x000F 0)
    ∷ request 5 (first_fault 0x003F 0x00F0 (RdffrPg 1 8) (Rdffr 0)) (gives 0b0000 0 0x003F 0x00F0 0x0030)
    ∷ request 5 (first_fault 0x003F 0x00F0 (Rdffr 8) (RdffrsPg 1 0)) (gives 0b1010 0 0x0030 0x00F0 0x003F)
    ∷ request 5 (written (0 ∷ 0x0001 ∷ 0x0FFF ∷ 0xFFFF ∷ 0x0002 ∷ 0x0005 ∷ 0xFFFE ∷ [])) (0 ∷ 0 ∷ 0 ∷ 0 ∷ 14 ∷ 14 ∷ 14 ∷ [])
    ∷ request 5 (replies (barred 0 0) (0x25289000 ∷ 0x252C9000 ∷ [])) (2 ∷ 2 ∷ [])
    ∷ request 5 (replies (barred 1 0x0005) (0x25289020 ∷ [])) (3 ∷ [])
    ∷ request 4 (replies (barred 0 0) (0 ∷ 0xA5A24438 ∷ 0x25104441 ∷ 0x25434650 ∷ 0x25A24438 ∷ [])) (1 ∷ 1 ∷ 13 ∷ 13 ∷ 2 ∷ [])
    ∷ []

pub as_wanted : map (λ e. e.got) examples ≡ map (λ e. e.wanted) examples
unfolding start seen after gives read one base request barred kept counts trusted four replies first_fault written examples test_bit number element_bit count some after_last scan bit_at pack active spread elements predicate_length has_bit_from at_lowest at_highest pred_test nzcv flags_of has_all_registers is_length has_stray_bit all_counts counts_of same_counts has_wrong_count illegal with_x with_p with_flags read_by operand_at comparison clamp saturating all_held while_element counter_of counter_flags count_end expanded while_one_of while_pair_of while_counter_of cntp_counter_of inc_dec_of saturating_of pnext_of ptest_of monotonic setffr_of under_mask rdffrs_pg_of compute_of apply execute_of after_word step_of
as_wanted = refl

-- what `counter-reads_alike` asks of a state is met: the counter of example 7
seventh_reads_alike : (b : ℕ) → expanded_to14 128 (read_p (execute_of (start 0 2 0 0) (While LessEqual false (Counter false 0) Sz.S 1 2)) 8) b
    ≡ expanded 128 (read_p (execute_of (start 0 2 0 0) (While LessEqual false (Counter false 0) Sz.S 1 2)) 8) b
unfolding start some bit_at test_bit number pack predicate_length has_bit_from has_all_registers is_length has_stray_bit all_counts counts_of same_counts has_wrong_count illegal active elements count
seventh_reads_alike = counter-reads_alike (start 0 2 0 0) refl LessEqual false false Sz.S 1 2 0 (omega arith)

-- what `step-counted` and `inc_dec_counts` ask of a state is met
stays_counted : counted (step_of (start 0 2 0x00F1 0x0111) (word_of (Pfalse 0))).state ≡ (step_of (start 0 2 0x00F1 0x0111) (word_of (Pfalse 0))).state
unfolding start some bit_at test_bit number pack predicate_length has_bit_from has_all_registers is_length has_stray_bit all_counts counts_of same_counts has_wrong_count illegal active elements count
stays_counted = step-counted (start 0 2 0x00F1 0x0111) (word_of (Pfalse 0)) refl

adds_elements : compute_of (IncDec false Sz.S 1 1) (values_of (start 0 2 0x00F1 0x0111) (registers_of (IncDec false Sz.S 1 1))) 128 ≡ inc_dec_of false 0 (true_elements 128 Sz.S (read_p (start 0 2 0x00F1 0x0111) 1))
unfolding start some bit_at test_bit number pack predicate_length has_bit_from has_all_registers is_length has_stray_bit all_counts counts_of same_counts has_wrong_count illegal active elements count
adds_elements = inc_dec_counts (start 0 2 0x00F1 0x0111) refl false Sz.S 1 1 (omega arith)
