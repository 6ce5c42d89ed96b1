-- Which registers a kernel may name, test by test. Assumes nothing.
use Rattle.std.specs.Prelude.{Result}
use Rattle.std.specs.Prelude.{Ok, Err}
use Rattle.replies.specs.declared.Refusal.{Refusal}
use mathlib.Core.Bool.{Bool, true, false, not, ◌&&◌, ◌||◌}
use mathlib.Core.Path.{◌≡◌, refl, sym, ap, ◌∙◌}
use Prim.Native.Nat.{ℕ, ◌≤◌, ◌<◌}
use native.Mathlib.Decide.{dec_lt}
use native.Mathlib.Omega.{arith}
use lib.Dec.{ltb}
use borrow.Author.Tests.{lt-ltb, le-ltb, le-leb, lt-leb, not-true, not-false}
use Rattle.words.specs.declared.Instruction.{Instruction}
use Rattle.registers.specs.State.{ffr}
use Rattle.words.specs.Words.{decode_of}
use Rattle.instructions.specs.declared.operands.Registers.{Registers}
use Rattle.instructions.specs.Operands.{registers_of}
use Rattle.shared.specs.declared.Kernel.{Kernel}
use Rattle.shared.specs.declared.Kernel.TheVariants.{First, Second}
use Rattle.shared.specs.Inside.{may_step}
use Rattle.shared.specs.Ownership.{owns_x, owns_p, may_name_x, may_name_p, may_name}

-- ---- a list of tests that all hold, or one that does not

pub fails_here : {t a : Bool} (b : Bool) → t ≡ a → not t ≡ true → false ≡ (a && b)
fails_here {t} b e h = sym (ap (λ (x : Bool). x && b) (sym e ∙ not-true t h))

pub holds_here : {t a : Bool} (b c : Bool) → t ≡ a → not t ≡ false → c ≡ b → c ≡ (a && b)
holds_here {t} b c e h q = q ∙ sym (ap (λ (x : Bool). x && b) (sym e ∙ not-false t h))

pub ruleset naming = (fails_here, holds_here)

-- ---- X registers

module _ (who : Kernel) (r : ℕ) where
  pub open_x : 30 < r → true ≡ may_name_x who r
  unfolding may_name_x
  open_x h = sym (ap (λ (b : Bool). b || owns_x who r) (le-leb 31 r (omega arith)))

  pub own_x : r ≤ 30 → owns_x who r ≡ may_name_x who r
  unfolding may_name_x
  own_x h = sym (ap (λ (b : Bool). b || owns_x who r) (lt-leb 31 r (omega arith)))

  pub first_x : who ≡ First → r ≤ 30 → ltb r 16 ≡ may_name_x who r
  first_x e h = sym (ap (λ (w : Kernel). owns_x w r) e) ∙ own_x h

  second_has : r ≤ 30 → ltb 15 r ≡ owns_x Second r
  second_has h =
      elim (dec_lt 15 r) [
        | yes l ↦ rw (lt-ltb 15 r l, lt-ltb r 31 (omega arith))
        | no l ↦ rw (le-ltb 15 r (omega arith))
      ]

  pub second_x : who ≡ Second → r ≤ 30 → ltb 15 r ≡ may_name_x who r
  second_x e h = second_has h ∙ sym (ap (λ (w : Kernel). owns_x w r) e) ∙ own_x h

-- ---- P registers

module _ (who : Kernel) (r : ℕ) where
  pub open_p : 16 < r → true ≡ may_name_p who r
  unfolding may_name_p
  open_p h = sym (ap (λ (b : Bool). b || owns_p who r) (lt-ltb 16 r h))

  pub own_p : r ≤ 16 → owns_p who r ≡ may_name_p who r
  unfolding may_name_p
  own_p h = sym (ap (λ (b : Bool). b || owns_p who r) (le-ltb 16 r h))

  neither : (w : Kernel) → r ≡ 16 → false ≡ owns_p w r
  neither First e = sym (le-ltb r 8 (omega arith))
  neither Second e = rw (le-leb 8 r (omega arith), le-ltb r 16 (omega arith))

  pub ffr_p : r ≡ 16 → false ≡ may_name_p who r
  ffr_p e = neither who e ∙ own_p (omega arith)

  pub first_p : who ≡ First → r ≤ 16 → ltb r 8 ≡ may_name_p who r
  first_p e h = sym (ap (λ (w : Kernel). owns_p w r) e) ∙ own_p h

  second_has_p : r < 16 → ltb 7 r ≡ owns_p Second r
  second_has_p h =
      elim (dec_lt 7 r) [
        | yes l ↦ rw (lt-ltb 7 r l, lt-ltb r 16 h)
        | no l ↦ rw (le-ltb 7 r (omega arith))
      ]

  pub second_p : who ≡ Second → r ≤ 16 → (r ≡ 16 → ⊥) → ltb 7 r ≡ may_name_p who r
  second_p e h n = second_has_p (omega arith) ∙ sym (ap (λ (w : Kernel). owns_p w r) e) ∙ own_p h

pub nobodys : (who : Kernel) → may_name_p who ffr ≡ false
unfolding may_name_p
nobodys First = refl
nobodys Second = refl

-- ---- a word, by what it is

module _ (who : Kernel) (w : ℕ) (d : Result Instruction Refusal) (is : d ≡ decode_of w) where
  pub refused_may : (r : Refusal) → d ≡ Err r → true ≡ may_step who (decode_of w)
  unfolding may_step
  refused_may r e = sym (ap (may_step who) (sym is ∙ e))

  pub ours_may : (i : Instruction) (q : Registers) (b : Bool) → d ≡ Ok i → q ≡ registers_of i → b ≡ may_name who q → b ≡ may_step who (decode_of w)
  unfolding may_step
  ours_may i q b e eq eb = eb ∙ ap (may_name who) eq ∙ sym (ap (may_step who) (sym is ∙ e))
