-- `words::level` meets its contract: a WHILE asks a level by its target and the way that it counts, every other form a number.
use mathlib.Core.Path.{refl}
use mathlib.Core.Logic.{◌⊎◌, inl, inr}
use Rattle.words.proofs.Fields.{level_is, level_as, level_up, level_down}
use Rattle.words.proofs.level.Goals as goal

either : {A B C : Type 0} → A ⊎ B → (A → C) → (B → C) → C
either (inl a) f g = f a
either (inr b) f g = g b

pub returns-then-counts_up : goal.returns-then-counts_up
returns-then-counts_up c = search (level_as, level_up) depth 9

pub returns-else-counts_up : goal.returns-else-counts_up
returns-else-counts_up c = search (level_as, level_down) depth 9

pub returns-in-Pair : goal.returns-in-Pair
returns-in-Pair c = either c.in-Pair.is (λ (_, e). level_as c.in-While.is e refl) (λ (_, _, e). level_as c.in-While.is e refl)

pub returns-in-CntpCounter : goal.returns-in-CntpCounter
returns-in-CntpCounter c = search level_is depth 9

pub returns-in-Saturating : goal.returns-in-Saturating
returns-in-Saturating c =
    either c.in-Saturating.is (λ (_, _, _, _, _, _, e). level_is e refl)
    (λ s. either s (λ (_, _, _, _, e). level_is e refl)
    (λ s. either s (λ (_, _, _, _, e). level_is e refl)
    (λ s. either s (λ (_, _, _, e). level_is e refl)
    (λ s. either s (λ (_, _, e). level_is e refl)
    (λ s. either s (λ (_, _, e). level_is e refl)
    (λ s. either s (λ (_, e). level_is e refl)
    (λ s. either s (λ (_, _, _, _, _, _, e). level_is e refl)
    (λ s. either s (λ e. level_is e refl)
    (λ s. either s (λ (_, e). level_is e refl)
    (λ s. either s (λ (_, e). level_is e refl)
    (λ s. either s (λ (_, _, e). level_is e refl) (λ (_, _, e). level_is e refl))))))))))))
