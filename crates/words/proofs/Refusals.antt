-- Which reply a word that is none of ours gets, and exactly when.
use Rattle.std.specs.Prelude.{Ok}
use Rattle.replies.specs.declared.Refusal.{Refusal}
use Rattle.replies.specs.Reply.{refusal_number}
use Rattle.std.specs.Prelude.{Err}
use Prim.Native.Nat.{ℕ, ◌<◌, ◌^◌}
use lib.ListN.{length}
use mathlib.Core.Path.{◌≡◌, refl, sym, ap, ◌∙◌}
use mathlib.Core.Bool.{Bool, true, false, ◌&&◌, false≢true}
use mathlib.Core.Logic.{◌↔◌, inl, inr}
use native.Mathlib.Omega.{arith}
use Rattle.bits.specs.Choice.{pick}
use Rattle.replies.specs.declared.Refusal.TheVariants.{ForeignWord, UnsupportedForm}
use Rattle.words.specs.Layout.{matches, cut, from}
use Rattle.words.specs.Words.{forms, form_at, reads, instruction_in, has_opcode, refusal, decode_of, word_of, in_range}
use Rattle.words.specs.declared.Instruction.{Instruction}
use Rattle.words.proofs.Table.{reads-matches, has_opcode_lem, one_layout}
use Rattle.words.proofs.RoundTrip.{Outcome, outcome, refused-read}

-- a word that is refused gets the reply that `refusal` has for it
refused_reply : (w : ℕ) (r : Refusal) → decode_of w ≡ Err r → r ≡ refusal w
refused_reply w r e = go (outcome forms w)
  where
    go : Outcome forms w → r ≡ refusal w
    go (inl (n, l, m, p)) =
        let q : Ok (instruction_in (form_at n) w) ≡ Err r = sym p ∙ e in
        let z : ◌≡◌ {A = ℕ} 0 1 = cc in
        absurd (omega arith)
    go (inr p) =
        let q : Err r ≡ Err (refusal w) = sym e ∙ p in
        cc

-- which is 1 or 13 by bits 31:24
refusal_is : (w : ℕ) (b : Bool) → has_opcode w ≡ b → refusal w ≡ pick b UnsupportedForm ForeignWord
refusal_is w b h = ap (λ (t : Bool). pick t UnsupportedForm ForeignWord) h

-- 1 and 13 are two replies
foreign≢unsupported : ForeignWord ≡ UnsupportedForm → ⊥
foreign≢unsupported e = omega (arith, ap refusal_number e)

-- 1 exactly when bits 31:24 are not 00100101
pub foreign_read : (w : ℕ) → (decode_of w ≡ Err ForeignWord) ↔ (has_opcode w ≡ false)
foreign_read w = (there (has_opcode w) refl, back (outcome forms w))
  where
    there : (b : Bool) → has_opcode w ≡ b → decode_of w ≡ Err ForeignWord → has_opcode w ≡ false
    there true h e = absurd (foreign≢unsupported (refused_reply w ForeignWord e ∙ refusal_is w true h))
    there false h e = h

    back : Outcome forms w → has_opcode w ≡ false → decode_of w ≡ Err ForeignWord
    back (inl (n, l, m, p)) h = absurd (false≢true (sym h ∙ has_opcode_lem n w (reads-matches (form_at n) w m)))
    back (inr p) h = p ∙ ap Err (refusal_is w false h)

-- a word that gets 13 has these bits
opcode-of_unsupported : (w : ℕ) (b : Bool) → has_opcode w ≡ b → decode_of w ≡ Err UnsupportedForm → has_opcode w ≡ true
opcode-of_unsupported w true h e = h
opcode-of_unsupported w false h e = absurd (foreign≢unsupported (sym (refused_reply w UnsupportedForm e ∙ refusal_is w false h)))

-- 13 exactly when bits 31:24 are 00100101, and no instruction whose fields are within their ranges has that word
pub unsupported_form_read : (w : ℕ) → w < 2 ^ 32
    → (decode_of w ≡ Err UnsupportedForm) ↔ ((has_opcode w ≡ true) × ((i : Instruction) → in_range i ≡ true → word_of i ≡ w → ⊥))
unsupported_form_read w h = (there, back)
  where
    there : decode_of w ≡ Err UnsupportedForm → (has_opcode w ≡ true) × ((i : Instruction) → in_range i ≡ true → word_of i ≡ w → ⊥)
    there e = (opcode-of_unsupported w (has_opcode w) refl e, (refused-read w h).0 (e ∙ ap Err (refused_reply w UnsupportedForm e)))

    back : (has_opcode w ≡ true) × ((i : Instruction) → in_range i ≡ true → word_of i ≡ w → ⊥) → decode_of w ≡ Err UnsupportedForm
    back (o, k) = (refused-read w h).1 k ∙ ap Err (refusal_is w true o)

-- a word with these bits that is read as no instruction gets 13
pub unread : (w : ℕ) → has_opcode w ≡ true → ((i : Instruction) → decode_of w ≡ Ok i → ⊥) → decode_of w ≡ Err UnsupportedForm
unread w o k = go (outcome forms w)
  where
    go : Outcome forms w → decode_of w ≡ Err UnsupportedForm
    go (inl (n, l, m, p)) = absurd (k (instruction_in (form_at n) w) p)
    go (inr p) = p ∙ ap Err (refusal_is w true o)

-- so does one with a form's fixed bits, and with fields that the form leaves out
pub left_out_read : (n w : ℕ) → n < length forms → matches (form_at n).layout w ≡ true → from (form_at n).allowed (cut (form_at n).layout w) ≡ false
    → decode_of w ≡ Err UnsupportedForm
left_out_read n w l h a = go (outcome forms w)
  where
    go : Outcome forms w → decode_of w ≡ Err UnsupportedForm
    go (inl (k, b, r, p)) =
        let e : k ≡ n = one_layout k n w b l (reads-matches (form_at k) w r) h in
        absurd (false≢true (sym (ap (λ (x : Bool). x && matches (form_at n).layout w) a) ∙ sym (ap (λ (i : ℕ). reads (form_at i) w) e) ∙ r))
    go (inr p) = p ∙ ap Err (refusal_is w true (has_opcode_lem n w h))
