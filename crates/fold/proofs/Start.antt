-- The state that a title's walk begins with: its predicates have no bit set, and so their counts are 0. Assumes nothing.
use mathlib.Core.Bool.{false, true}
use mathlib.Core.List.{List}
use mathlib.Core.Path.{◌≡◌, sym, ap, ap₂, ◌∙◌}
use Prim.Native.Nat.{ℕ, ◌*◌, ◌/◌, ◌%◌, ◌^◌, ◌≤◌}
use native.Mathlib.Decide.{dec_lt}
use native.Mathlib.Omega.{arith}
use lib.ListN.{replicate, get_or-eq_default}
use Rattle.bits.specs.declared.Size.{Size}
use Rattle.bits.specs.declared.Size.TheVariants as Sz
use Rattle.bits.specs.Bits.{test_bit}
use Rattle.bits.specs.Size.{shift}
use Rattle.bits.proofs.Bits.{test_bit-zero}
use Rattle.bits.proofs.Searches.{count_none}
use Rattle.predicates.specs.declared.Flags.{Flags}
use Rattle.predicates.specs.declared.Predicate.{Predicate}
use Rattle.predicates.specs.Predicate.{bit_at, pack, active, elements, all_false}
use Rattle.predicates.proofs.Words.{pack-bit}
use Rattle.tally.specs.declared.Counts.{Counts}
use Rattle.tally.specs.Counts.{true_elements, counts_of, no_counts}
use Rattle.registers.specs.State.{all_counts, assembled, made}

past_end : (b : ℕ) → 4 ≤ b / 64 → bit_at all_false b ≡ false
unfolding bit_at pack
past_end b h = ap (λ (w : ℕ). test_bit w (b % 64)) (get_or-eq_default all_false.words 0 h) ∙ test_bit-zero (b % 64)

no_bit : (b : ℕ) → bit_at all_false b ≡ false
no_bit b = elim (dec_lt b 256) [
  | yes h ↦ pack-bit (λ b. false) b h
  | no h ↦ past_end b (omega arith)
]

none-counted : (vl : ℕ) → no_counts ≡ counts_of vl all_false
unfolding counts_of active
none-counted vl = λ i. record { b = none Sz.B i; h = none Sz.H i; s = none Sz.S i; d = none Sz.D i }
  where
    none : (size : Size) → 0 ≡ true_elements vl size all_false
    none size = sym (count_none (active (shift size) all_false) (elements vl size) (λ e _. no_bit (e * 2 ^ shift size)))

-- as `title_state` makes it
pub start_made : (vl level : ℕ) (f g : Flags) (x : List ℕ) (p : Predicate) (c : Counts) → f ≡ g → p ≡ all_false → c ≡ no_counts
    → assembled vl level true f x (replicate 17 p) (replicate 16 c) ≡ made vl level true g x (replicate 17 all_false)
unfolding all_counts
start_made vl level f g x p c ef ep ec =
    ap₂ (λ (f : Flags) (p : Predicate). assembled vl level true f x (replicate 17 p) (replicate 16 c)) ef ep
    ∙ ap (λ (c : Counts). assembled vl level true g x (replicate 17 all_false) (replicate 16 c)) (ec ∙ none-counted vl)
