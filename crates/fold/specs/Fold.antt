-- A title folded by the walk: with H elements, from 0 to its length.
use Rattle.replies.specs.Reply.{Reply, is_done}
use Rattle.std.specs.Prelude.{Ok, Err}
use Rattle.std.specs.Prelude.{ℕ, zero, suc, true, not, List, ltb, length, get_or, set, replicate}
use Rattle.bits.specs.Choice.{pick}
use Rattle.predicates.specs.Predicate.{all_false}
use Rattle.predicates.specs.PredTest.{flags_of}
use Rattle.replies.specs.declared.Refusal.TheVariants.{IllegalState, ListTooShort}
use Rattle.registers.specs.declared.State.{State}
use Rattle.registers.specs.Legal.{is_length}
use Rattle.registers.specs.State.{made}
use Rattle.walk.specs.declared.Walked.{Walked}
use Rattle.walk.specs.Walk.{walk_of, whole_of}
use Rattle.fold.specs.Table.{fold_unit}

-- the most units of a title
abbrev pub longest : ℕ
longest = 4096

-- level 1, access on, X1 the length, all else zero
abbrev pub title_state : ℕ → ℕ → State
title_state vl units = made vl 1 true (flags_of 0) (set (replicate 31 0) 1 units) (replicate 17 all_false)

-- 4,096 + 3 * 512 + 2, what 4,096 units take at VL 128, the most of all (`needed_most`)
abbrev pub budget : ℕ
budget = 5634

-- the walk with H elements from X0 to X1, lanes P0, cursor P1: its answer, and the list that it leaves
abbrev pub title_answer : ℕ → ℕ → List ℕ → Walked
title_answer vl units list = walk_of 1 0 1 0 1 budget (title_state vl units) list

abbrev pub title_list : ℕ → ℕ → List ℕ → List ℕ
title_list vl units list = (whole_of 1 0 1 0 1 budget (title_state vl units) list).list

-- a title with the unit at a position folded
abbrev pub folded_one : ℕ → List ℕ → List ℕ
folded_one at t = set t at (fold_unit (get_or t at 0))

-- with the units at the first n of these positions folded, one after the other
unfoldable pub folded_first : List ℕ → ℕ → List ℕ → List ℕ
folded_first positions zero t = t
folded_first positions (suc n) t = folded_one (get_or positions n 0) (folded_first positions n t)

-- where the walk answers 0, folded at the positions that it visited; else as it was
unfoldable pub fold_of : ℕ → List ℕ → List ℕ → List ℕ
fold_of vl list t =
    let r = title_answer vl (length t) list in
    pick (is_done r.reply) (folded_first (title_list vl (length t) list) r.visited t) t

-- a bad vector length is refused with 4, then a longer title with 11
abbrev pub fold_reply : ℕ → ℕ → Reply
fold_reply vl units = pick (not (is_length vl)) (Err IllegalState) (pick (ltb longest units) (Err ListTooShort) (Ok tt))
