-- Lines put one after the other. Assumes nothing.
use mathlib.Core.Bool.{Bool, true, false}
use mathlib.Core.List.{List, [], ◌∷◌, ◌++◌}
use mathlib.Core.Path.{◌≡◌, refl, ap, ◌∙◌}
use Prim.Native.Nat.{ℕ, ◌+◌, ◌≤◌}
use native.Mathlib.Omega.{arith}
use lib.Dec.{leb}
use lib.ListN.{length, take, drop, length-append, length-take, length-drop}
use borrow.Author.Tests.{leb-true}
use Rattle.bits.specs.Choice.{pick}
use Rattle.report.specs.Lines.{after, placed}
use Rattle.transcript.specs.Transcript.{after_all, placed_all}

-- a line leaves the buffer as long as it was
pub placed-length : (line : List ℕ) (at : ℕ) (buffer : List ℕ) → length (placed line at buffer) ≡ length buffer
unfolding placed
placed-length line at buffer = go (leb (at + length line) (length buffer)) refl
  where
    go : (b : Bool) → leb (at + length line) (length buffer) ≡ b → length (pick b (take at buffer ++ (line ++ drop (at + length line) buffer)) buffer) ≡ length buffer
    go false e = refl
    go true e =
        let h : at + length line ≤ length buffer = leb-true _ _ e in
        simp (length-append, length-take, length-drop) (omega arith)

-- a position stays within the buffer
after-within : (line : List ℕ) (at room : ℕ) → at ≤ room → after line at room ≤ room
unfolding after
after-within line at room h = go (leb (at + length line) room) refl
  where
    go : (b : Bool) → leb (at + length line) room ≡ b → pick b (at + length line) at ≤ room
    go false e = h
    go true e = leb-true _ _ e

all_within : (ls : List (List ℕ)) (at room : ℕ) → at ≤ room → after_all ls at room ≤ room
unfolding after_all
all_within [] at room h = h
all_within (l ∷ ls) at room h = all_within ls (after l at room) room (after-within l at room h)

all_placed-length : (ls : List (List ℕ)) (at : ℕ) (buffer : List ℕ) → length (placed_all ls at buffer) ≡ length buffer
unfolding placed_all
all_placed-length [] at buffer = refl
all_placed-length (l ∷ ls) at buffer = all_placed-length ls _ (placed l at buffer) ∙ placed-length l at buffer

-- the bytes written lie within the buffer
pub written-within : (ls : List (List ℕ)) (out : List ℕ) (n : ℕ) (last : List ℕ) → n ≡ after_all ls 0 (length out) → last ≡ placed_all ls 0 out → n ≤ length last
written-within ls out n last en el = rw (el, en, all_placed-length ls 0 out) (all_within ls 0 (length out) (omega arith))

-- lines from here on give what the lines from there on give
pub record Same (ls : List (List ℕ)) (at : ℕ) (out : List ℕ) (ls₀ : List (List ℕ)) (at₀ : ℕ) (out₀ : List ℕ) : Type 0 where
  pub long : length out ≡ length out₀
  pub ends : after_all ls at (length out₀) ≡ after_all ls₀ at₀ (length out₀)
  pub shown : placed_all ls at out ≡ placed_all ls₀ at₀ out₀

pub same_start : (ls : List (List ℕ)) (at : ℕ) (out : List ℕ) → Same ls at out ls at out
same_start ls at out = record { long = refl; ends = refl; shown = refl }

module _ (ls₀ : List (List ℕ)) (at₀ : ℕ) (out₀ : List ℕ) (line : List ℕ) (at : ℕ) (out : List ℕ) (next : ℕ) (result : List ℕ)
    (en : next ≡ after line at (length out)) (er : result ≡ placed line at out) where
  pub line_put : (ls : List (List ℕ)) → Same (line ∷ ls) at out ls₀ at₀ out₀ → Same ls next result ls₀ at₀ out₀
  unfolding after_all placed_all
  line_put ls s =
      record {
        long = ap length er ∙ placed-length line at out ∙ s.long;
        ends = ap (λ (n : ℕ). after_all ls n (length out₀)) (en ∙ ap (after line at) s.long) ∙ s.ends;
        shown = ap (λ (n : ℕ). placed_all ls n result) en ∙ ap (placed_all ls (after line at (length out))) er ∙ s.shown;
      }

  pub last_put : Same (line ∷ []) at out ls₀ at₀ out₀ → (next ≡ after_all ls₀ at₀ (length out₀)) × (result ≡ placed_all ls₀ at₀ out₀)
  unfolding after_all placed_all
  last_put s = let t = line_put [] s in (t.ends, t.shown)
