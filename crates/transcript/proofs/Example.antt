-- Document 01's example: the text of its image, byte for byte, as the program has it. Assumes nothing.
use mathlib.Core.List.{List, [], ◌∷◌, ◌++◌}
use mathlib.Core.Path.{◌≡◌, refl, ap, ◌∙◌}
use Prim.Native.Nat.{ℕ, ◌≤◌}
use lib.ListN.{length, drop}
use Rattle.bits.specs.Bits.{test_bit, number, element_bit}
use Rattle.bits.specs.Search.{count, some, after_last, scan}
use Rattle.predicates.specs.PredTest.{at_lowest, at_highest, pred_test, nzcv, flags_of}
use Rattle.predicates.specs.Predicate.{bit_at, pack, active, spread, elements, predicate_length, has_bit_from}
use Rattle.tally.specs.Counts.{counts_of, same_counts}
use Rattle.registers.specs.Legal.{has_all_registers, is_length, has_stray_bit, has_wrong_count, illegal}
use Rattle.registers.specs.State.{all_counts, with_x, with_p, with_flags}
use Rattle.words.specs.Words.{read_by}
use Rattle.instructions.specs.Counter.{counter_of, counter_flags, while_counter_of}
use Rattle.instructions.specs.Instructions.{compute_of}
use Rattle.instructions.specs.Searches.{pnext_of}
use Rattle.instructions.specs.Whiles.{while_element, while_one_of, while_pair_of}
use Rattle.scalars.specs.While.{operand_at, comparison, all_held}
use Rattle.machine.specs.Execute.{apply, execute_of}
use Rattle.machine.specs.Step.{after_word, step_of}
use Rattle.octets.specs.Bytes.{value, parts}
use Rattle.image.specs.Sections.{setting, sections, section_reply, or_else, sections_reply, start_of}
use Rattle.image.specs.Reading.{flags_in, predicate_of, ffr_in, image_reply, state_of, words_of}
use Rattle.image.proofs.Example.{image, old}
use Rattle.report.specs.Lines.{symbol, digits, decimal_in, flag_digits, word_line, end_line, image_line}
use Rattle.transcript.specs.Transcript.{lines_of, transcript_of, after_all, placed_all, text}
use Rattle.transcript.proofs.Texts.{transcribed}

-- 0 25a21c20 0 1010, 1 2519c401 0 1010, 2 00000000 1 1010, end 2
abbrev pub wanted : List ℕ
wanted =
    48 ∷ 32 ∷ 50 ∷ 53 ∷ 97 ∷ 50 ∷ 49 ∷ 99 ∷ 50 ∷ 48 ∷ 32 ∷ 48 ∷ 32 ∷ 49 ∷ 48 ∷ 49 ∷ 48 ∷ 10
    ∷ 49 ∷ 32 ∷ 50 ∷ 53 ∷ 49 ∷ 57 ∷ 99 ∷ 52 ∷ 48 ∷ 49 ∷ 32 ∷ 48 ∷ 32 ∷ 49 ∷ 48 ∷ 49 ∷ 48 ∷ 10
    ∷ 50 ∷ 32 ∷ 48 ∷ 48 ∷ 48 ∷ 48 ∷ 48 ∷ 48 ∷ 48 ∷ 48 ∷ 32 ∷ 49 ∷ 32 ∷ 49 ∷ 48 ∷ 49 ∷ 48 ∷ 10 ∷ 101 ∷ 110 ∷ 100 ∷ 32 ∷ 50 ∷ 10 ∷ []

-- with the list of 4,096 places that the program lends
pub example : text (transcript_of 4096 image) ≡ wanted
unfolding transcript_of lines_of text value parts setting sections section_reply or_else sections_reply start_of flags_in predicate_of ffr_in image_reply state_of words_of word_line end_line flag_digits decimal_in digits symbol test_bit number element_bit count some after_last scan bit_at pack active spread elements predicate_length has_bit_from at_lowest at_highest pred_test nzcv flags_of has_all_registers is_length has_stray_bit all_counts counts_of same_counts has_wrong_count illegal with_x with_p with_flags read_by operand_at comparison all_held while_element counter_of counter_flags while_one_of while_pair_of while_counter_of pnext_of compute_of apply execute_of after_word step_of
example = refl

-- the same of the old image of that state and those words, which has no FFR
pub old_example : text (transcript_of 4096 old) ≡ wanted
unfolding transcript_of lines_of text value parts setting sections section_reply or_else sections_reply start_of flags_in predicate_of ffr_in image_reply state_of words_of word_line end_line flag_digits decimal_in digits symbol test_bit number element_bit count some after_last scan bit_at pack active spread elements predicate_length has_bit_from at_lowest at_highest pred_test nzcv flags_of has_all_registers is_length has_stray_bit all_counts counts_of same_counts has_wrong_count illegal with_x with_p with_flags read_by operand_at comparison all_held while_element counter_of counter_flags while_one_of while_pair_of while_counter_of pnext_of compute_of apply execute_of after_word step_of
old_example = refl

-- in every buffer that is long enough for all images
pub written : (out : List ℕ) → 86026 ≤ length out → (after_all (transcript_of 4096 image) 0 (length out) ≡ 60) × (placed_all (transcript_of 4096 image) 0 out ≡ wanted ++ drop 60 out)
written out h = let t = transcribed 4096 image out h in (t.0 ∙ ap length example, t.1 ∙ ap (λ (l : List ℕ). l ++ drop (length l) out) example)

-- an image cut short: image 5
pub refused : text (transcript_of 4096 (3 ∷ 0 ∷ 0 ∷ [])) ≡ 105 ∷ 109 ∷ 97 ∷ 103 ∷ 101 ∷ 32 ∷ 53 ∷ 10 ∷ []
unfolding transcript_of text value sections section_reply or_else sections_reply image_reply image_line decimal_in symbol
refused = refl
