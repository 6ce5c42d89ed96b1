-- Laws of lines in a buffer. Assumes nothing.
use mathlib.Core.Bool.{true, false}
use mathlib.Core.List.{List, [], ◌∷◌, ◌++◌, append_assoc}
use mathlib.Core.Path.{◌≡◌, refl, sym, ap, ◌∙◌}
use Prim.Native.Nat.{ℕ, ◌+◌, ◌-◌, ◌≤◌, ◌<◌}
use native.Mathlib.Omega.{arith}
use lib.Dec.{leb}
use lib.ListN.{length, length-append}
use lib.Seq.{sets, sets-eq}
use borrow.Author.Tests.{le-leb, lt-leb}
use Rattle.predicates.specs.declared.Flags.{Flags}
use Rattle.report.specs.Lines.{digits, decimal, flag_digits, space, newline, word_line, after, placed}
use Rattle.report.proofs.Digits.{sets_append, length_digits, decimal-digits}

-- ---- whether a line of k bytes fits, as the code tests it

module _ (line : List ℕ) (at : ℕ) (buffer : List ℕ) (k room : ℕ) (el : k ≡ length line) (er : room ≡ length buffer - at) where
  pub line_refused : room < k → (at ≡ after line at (length buffer)) × (buffer ≡ placed line at buffer)
  unfolding after placed
  line_refused h = let b : leb (at + length line) (length buffer) ≡ false = lt-leb (at + length line) (length buffer) (omega arith) in (rw b, rw b)

  pub line_done : (result : List ℕ) (end : ℕ) → 0 < k → k ≤ room → end ≡ at + k → result ≡ sets buffer at line
      → (end ≡ after line at (length buffer)) × (result ≡ placed line at buffer)
  unfolding after placed
  line_done result end z h ee es =
      let f : at + length line ≤ length buffer = omega arith in
      let b : leb (at + length line) (length buffer) ≡ true = le-leb (at + length line) (length buffer) f in
      (rw b (ee ∙ ap (λ (n : ℕ). at + n) el), rw b (es ∙ sets-eq line buffer at f ∙ rw append_assoc))

-- ---- the lines, field by field

more : (l m : List ℕ) (at next : ℕ) (x y : List ℕ) → m ≡ sets l at x → next ≡ at + length x → sets l at (x ++ y) ≡ sets m next y
more l m at next x y e n = rw (e, n) (sets_append l at x y)

field_length : (base k n end : ℕ) → length (digits base k n ++ (end ∷ [])) ≡ k + 1
field_length base k n end = simp (length-append, length_digits)

-- a decimal number and the byte after it
by_field : (n k end : ℕ) (rest : List ℕ) → k ≡ length (decimal n) → decimal n ++ (end ∷ rest) ≡ (digits 10 k n ++ (end ∷ [])) ++ rest
by_field n k end rest e =
    ap (λ (l : List ℕ). l ++ (end ∷ rest)) (decimal-digits n ∙ ap (λ (j : ℕ). digits 10 j n) (sym e)) ∙ sym (append_assoc (digits 10 k n) (end ∷ []) rest)

flags_length : (f : Flags) → length (flag_digits f) ≡ 4
unfolding flag_digits
flags_length f = refl

module _ (n w r : ℕ) (f : Flags) (x y : ℕ) (ex : x ≡ length (decimal n)) (ey : y ≡ length (decimal r)) where
  abbrev f1 : List ℕ
  f1 = digits 10 x n ++ (space ∷ [])

  abbrev f2 : List ℕ
  f2 = digits 16 8 w ++ (space ∷ [])

  abbrev f3 : List ℕ
  f3 = digits 10 y r ++ (space ∷ [])

  abbrev f4 : List ℕ
  f4 = flag_digits f ++ (newline ∷ [])

  word_fields : word_line n w r f ≡ f1 ++ (f2 ++ (f3 ++ f4))
  unfolding word_line
  word_fields =
      by_field n x space _ ex ∙ ap (λ (l : List ℕ). f1 ++ (digits 16 8 w ++ (space ∷ l))) (by_field r y space f4 ey)
      ∙ ap (λ (l : List ℕ). f1 ++ l) (sym (append_assoc (digits 16 8 w) (space ∷ []) (f3 ++ f4)))

  pub word-length : x + y + 16 ≡ length (word_line n w r f)
  word-length = rw word_fields (simp (length-append, length_digits, flags_length) (omega arith))

  pub word_put : (l a b c d : List ℕ) (at p q t s : ℕ) → s ≡ r → a ≡ sets l at f1 → p ≡ at + x + 1 → b ≡ sets a p f2 → q ≡ p + 8 + 1 → c ≡ sets b q (digits 10 y s ++ (space ∷ [])) → t ≡ q + y + 1 → d ≡ sets c t f4
      → d ≡ sets l at (word_line n w r f)
  word_put l a b c d at p q t s es ea ep eb eq ec et ed =
      ed
      ∙ sym (ap (sets l at) word_fields ∙ more l a at p f1 (f2 ++ (f3 ++ f4)) ea (rw (field_length 10 x n space) (omega arith))
      ∙ more a b p q f2 (f3 ++ f4) eb (rw (field_length 16 8 w space) (omega arith))
      ∙ more b c q t f3 f4 (rw es at ec) (rw (field_length 10 y r space) (omega arith)))

-- a text, a decimal number and a newline
pub text-length : (text : List ℕ) (n x : ℕ) → x ≡ length (decimal n) → x + length text + 1 ≡ length (text ++ (decimal n ++ (newline ∷ [])))
text-length text n x e = simp length-append (omega arith)

pub text_put : (text : List ℕ) (n x : ℕ) → x ≡ length (decimal n) → (l a b : List ℕ) (at next : ℕ) → a ≡ sets l at text → next ≡ at + length text → b ≡ sets a next (digits 10 x n ++ (newline ∷ []))
    → b ≡ sets l at (text ++ (decimal n ++ (newline ∷ [])))
text_put text n x e l a b at next ea en eb =
    eb ∙ ap (λ (z : List ℕ). sets a next (z ++ (newline ∷ []))) (sym (decimal-digits n ∙ ap (λ (j : ℕ). digits 10 j n) (sym e)))
    ∙ sym (more l a at next text (decimal n ++ (newline ∷ [])) ea en)
