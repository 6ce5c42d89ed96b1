-- FFR changes by SETFFR and WRFFR alone. Assumes nothing.
use Rattle.replies.specs.Reply.{Reply, number_of}
use Rattle.std.specs.Prelude.{Ok, Err}
use mathlib.Core.Bool.{true}
use mathlib.Core.Path.{◌≡◌, refl, sym, ap, ◌∙◌}
use Prim.Native.Nat.{ℕ, ◌<◌, ◌^◌}
use native.Mathlib.Omega.{arith}
use lib.ListN.{length, get_or}
use Rattle.replies.specs.declared.Refusal.TheVariants.{ForeignWord, LevelTooLow, AccessOff, IllegalState, UnsupportedForm, NotMonotonic, BadWalkRegisters, BudgetSpent, BufferTooSmall, FieldPastRange, ImageCut, ListTooShort, NotAllowed, NotOwned, TrailingBytes}
use Rattle.registers.specs.declared.State.{State}
use Rattle.registers.specs.State.{ffr, read_p}
use Rattle.words.specs.declared.Instruction.{Instruction}
use Rattle.words.specs.declared.Instruction.TheVariants.{While, Saturating, IncDec, Cntp, CntpCounter, Pnext, Pfirst, Ptest, Pfalse, Logic, Setffr, Wrffr, Rdffr, RdffrPg, RdffrsPg}
use Rattle.words.specs.declared.Target.TheVariants.{One, Pair, Counter}
use Rattle.words.specs.Layout.{fits, from}
use Rattle.words.specs.Inside.{widths}
use Rattle.words.specs.Words.{form_of, fields_of, decode_of, in_range}
use Rattle.words.proofs.Codec.{both, field_below}
use Rattle.words.proofs.RoundTrip.{written_read}
use Rattle.instructions.specs.Operands.{registers_of}
use Rattle.machine.specs.Given.{Given}
use Rattle.machine.specs.Given.Given.{illegal, foreign, unsupported, low, off, broken, done}
use Rattle.machine.specs.Step.{step_of}
use Rattle.machine.proofs.Replies.{exactly_when, refused-step, accepted_untouched}

-- field k of an instruction that has a word is within its bits
pub at : (i : Instruction) (k : ℕ) → in_range i ≡ true → k < length (fields_of i) → get_or (fields_of i) k 0 < 2 ^ get_or (widths (form_of i).layout) k 0
at i k h l = field_below (form_of i).layout (fields_of i) k (both (from (form_of i).allowed (fields_of i)) (fits (form_of i).layout (fields_of i)) h).1 l

-- FFR is not one of the two
abbrev Others : Instruction → Type 0
Others i = (ffr ≡ (registers_of i).pd → ⊥) × (ffr ≡ (registers_of i).pd2 → ⊥)

-- no field names it: a predicate register's has four bits at most
pub not_named : (i : Instruction) → in_range i ≡ true → (i ≡ Setffr → ⊥) → ((pn : ℕ) → i ≡ Wrffr pn → ⊥) → Others i
not_named (While c u (One sf pd) size rn rm) h a b = let l = at (While c u (One sf pd) size rn rm) 7 h (omega arith) in (λ e. omega arith, λ e. omega arith)
not_named (While c u (Pair pd) size rn rm) h a b = let l = at (While c u (Pair pd) size rn rm) 5 h (omega arith) in (λ e. omega arith, λ e. omega arith)
not_named (While c u (Counter four pnd) size rn rm) h a b = let l = at (While c u (Counter four pnd) size rn rm) 7 h (omega arith) in (λ e. omega arith, λ e. omega arith)
not_named (Saturating d u sf size pm rdn) h a b = (λ e. omega arith, λ e. omega arith)
not_named (IncDec d size pm rdn) h a b = (λ e. omega arith, λ e. omega arith)
not_named (Cntp size pg pn rd) h a b = (λ e. omega arith, λ e. omega arith)
not_named (CntpCounter four size pnn rd) h a b = (λ e. omega arith, λ e. omega arith)
not_named (Pnext size pv pdn) h a b = let l = at (Pnext size pv pdn) 2 h (omega arith) in (λ e. omega arith, λ e. omega arith)
not_named (Pfirst pg pdn) h a b = let l = at (Pfirst pg pdn) 1 h (omega arith) in (λ e. omega arith, λ e. omega arith)
not_named (Ptest pg pn) h a b = (λ e. omega arith, λ e. omega arith)
not_named (Pfalse pd) h a b = let l = at (Pfalse pd) 0 h (omega arith) in (λ e. omega arith, λ e. omega arith)
not_named (Logic o s pm pg pn pd) h a b = let l = at (Logic o s pm pg pn pd) 7 h (omega arith) in (λ e. omega arith, λ e. omega arith)
not_named Setffr h a b = absurd (a refl)
not_named (Wrffr pn) h a b = absurd (b pn refl)
not_named (Rdffr pd) h a b = let l = at (Rdffr pd) 0 h (omega arith) in (λ e. omega arith, λ e. omega arith)
not_named (RdffrPg pg pd) h a b = let l = at (RdffrPg pg pd) 1 h (omega arith) in (λ e. omega arith, λ e. omega arith)
not_named (RdffrsPg pg pd) h a b = let l = at (RdffrsPg pg pd) 1 h (omega arith) in (λ e. omega arith, λ e. omega arith)

-- a word other than SETFFR's and WRFFR's leaves FFR alone, accepted or refused
pub ffr_kept : (s : State) (w : ℕ) → w < 2 ^ 32 → (decode_of w ≡ Ok Setffr → ⊥) → ((pn : ℕ) → decode_of w ≡ Ok (Wrffr pn) → ⊥) → read_p (step_of s w).state ffr ≡ read_p s ffr
ffr_kept s w l a b = go (step_of s w).reply refl ((exactly_when s w (step_of s w).reply).0 refl)
  where
    as_it_was : (r : Reply) → (step_of s w).reply ≡ r → 0 < number_of r → read_p (step_of s w).state ffr ≡ read_p s ffr
    as_it_was r e h = ap (λ (t : State). read_p t ffr) (refused-step s w (λ z. omega (arith, ap number_of (sym e ∙ z))))

    go : (r : Reply) → (step_of s w).reply ≡ r → Given s w r → read_p (step_of s w).state ffr ≡ read_p s ffr
    go (Err IllegalState) e (illegal h) = as_it_was (Err IllegalState) e (omega arith)
    go (Err ForeignWord) e (foreign ok h) = as_it_was (Err ForeignWord) e (omega arith)
    go (Err UnsupportedForm) e (unsupported ok h k) = as_it_was (Err UnsupportedForm) e (omega arith)
    go (Err LevelTooLow) e (low i ok h k) = as_it_was (Err LevelTooLow) e (omega arith)
    go (Err AccessOff) e (off i ok h k x) = as_it_was (Err AccessOff) e (omega arith)
    go (Err NotMonotonic) e (broken pn ok h k x m) = as_it_was (Err NotMonotonic) e (omega arith)
    go (Ok tt) e (done i ok h k x m) =
        let (p, q) = not_named i (written_read w i l h).0 (λ z. a (h ∙ ap Ok z)) (λ pn z. b pn (h ∙ ap Ok z)) in
        (accepted_untouched s w i h e).p ffr p q
    go (Err ImageCut) e none = elim none [ ]
    go (Err NotAllowed) e none = elim none [ ]
    go (Err TrailingBytes) e none = elim none [ ]
    go (Err BufferTooSmall) e none = elim none [ ]
    go (Err FieldPastRange) e none = elim none [ ]
    go (Err BadWalkRegisters) e none = elim none [ ]
    go (Err ListTooShort) e none = elim none [ ]
    go (Err BudgetSpent) e none = elim none [ ]
    go (Err NotOwned) e none = elim none [ ]
