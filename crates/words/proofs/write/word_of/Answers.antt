-- `words::write::word_of` meets its contract: number by number, what is placed and what is left make up the row's word.
use Rattle.std.proofs.Common.{arith, ap, sym, length, ◌≡◌, ◌∙◌, drop, take, rules}
use Rattle.std.proofs.Math.Seq.{take-length}
use mathlib.Core.Logic.{inl, inr}
use Rattle.words.proofs.Placing.{start_small, start_sum, start_within, small_first, small_rest, more_sum, more_within, too_wide, end_sum, end_within, row-refused, row_written, row_lt}
use Rattle.words.specs.Layout.{fits, place}
use Rattle.words.specs.Words.{form_at}
use Rattle.words.specs.Rows.{row_layout}
use mathlib.Core.Bool.{true}
use Rattle.words.proofs.write.word_of.Goals as goal
use Rattle.words.proofs.write.word_of.Goals.{In-None}

pub loop-x-init : goal.loop-x-init
loop-x-init c =
    let eight : length (drop 1 c.args.row) ≡ 8 = search rules in
    let first : c.into_iter-x-iterator.result.a.rest.now ≡ take 8 (drop 1 c.args.row) = search rules in
    let numbers : c.into_iter-x-iterator.result.a.rest.now ≡ drop 1 c.args.row = first ∙ ap (λ n. take n (drop 1 c.args.row)) (sym eight) ∙ take-length (drop 1 c.args.row) in
    let fields : c.into_iter-x-iterator.result.b.rest.now ≡ c.places_of-places.result.fields = search rules in
    record {
      as_many = rw (numbers, fields) (search rules);
      small = rw fields (start_small c.from-form.result c.places_of-places.ensures);
      room = rw numbers (omega arith);
      placed = rw (numbers, fields) (rw c.from-word.ensures (start_sum c.from-form.result c.places_of-places.ensures (drop 1 c.args.row)));
      fitting = rw (numbers, fields) (start_within c.from-form.result c.places_of-places.ensures (drop 1 c.args.row));
    }

pub is_within-requires : goal.is_within-requires
is_within-requires c = (small_first c.in-Some.ensures.steps.1 c.in-Some.ensures.steps.0 c.loop-x.invariant.small).1

pub returns-then-not-is_within : goal.returns-then-not-is_within
returns-then-not-is_within c =
    row-refused c.args.row c.from-form.ensures c.is_allowed.ensures (omega arith) c.if-not-is_allowed.false
    (too_wide c.in-Some.ensures.steps.1 c.in-Some.ensures.steps.0 c.loop-x.invariant.fitting c.is_within.ensures c.if-not-is_within.true)

pub from_bit-word-requires : goal.from_bit-word-requires
from_bit-word-requires c = (small_first c.in-Some.ensures.steps.1 c.in-Some.ensures.steps.0 c.loop-x.invariant.small).0

pub loop-x-preserved : goal.loop-x-preserved
loop-x-preserved c = record {
  as_many = omega (arith, ap length c.in-Some.ensures.steps.0, ap length c.in-Some.ensures.steps.1);
  small = small_rest c.in-Some.ensures.steps.1 c.in-Some.ensures.steps.0 c.loop-x.invariant.small;
  room = omega (arith, ap length c.in-Some.ensures.steps.0, c.from_bit-word.ensures.1);
  placed = more_sum c.in-Some.ensures.steps.1 c.in-Some.ensures.steps.0 c.loop-x.word c.loop-x.invariant.placed c.from_bit-word.ensures.0;
  fitting = more_within c.in-Some.ensures.steps.1 c.in-Some.ensures.steps.0 c.loop-x.invariant.fitting c.is_within.ensures c.if-not-is_within.false;
}

-- at the loop's end
module _ (c : In-None) where
  no_number : length c.loop-x.x-iterator.a.rest.now ≡ 0
  no_number = elim c.in-None.ensures.steps [ inl (_, (e, _)) ↦ e | inr (_, (e, _)) ↦ sym c.loop-x.invariant.as_many ∙ e ]

  all_fit : fits (row_layout (form_at c.from-form.result)) (drop 1 c.args.row) ≡ true
  all_fit = end_within _ _ c.loop-x.invariant.as_many no_number c.loop-x.invariant.fitting

  whole : c.loop-x.word ≡ place (row_layout (form_at c.from-form.result)) (drop 1 c.args.row)
  whole = end_sum _ _ _ c.loop-x.invariant.as_many no_number c.loop-x.invariant.placed

pub overflow_cast-result : goal.overflow_cast-result
overflow_cast-result c = record { fits = row_lt c.from-form.result (drop 1 c.args.row) (whole c) (all_fit c) }

pub returns : goal.returns
returns c = row_written c.args.row c.from-form.ensures c.is_allowed.ensures (omega arith) c.if-not-is_allowed.false (all_fit c) (whole c)
