-- Each reply of a walk is given exactly when the table says, at every budget. Assumes nothing but what the types of its arguments say.
use Rattle.replies.specs.Reply.{Reply, is_done}
use Rattle.std.specs.Prelude.{Ok, Err}
use Rattle.std.proofs.Common.{◌≡◌, ℕ, ◌<◌, Bool, true, false, ◌↔◌, List, length, sym, refl, ap, ◌∙◌, subst, arith}
use native.Mathlib.Decide.{dec_lt}
use Rattle.replies.specs.declared.Refusal.TheVariants.{LevelTooLow, AccessOff, IllegalState, BadWalkRegisters, ListTooShort, BudgetSpent, BufferTooSmall, FieldPastRange, ForeignWord, ImageCut, NotAllowed, NotMonotonic, NotOwned, TrailingBytes, UnsupportedForm}
use Rattle.registers.specs.declared.State.{State}
use Rattle.registers.specs.Legal.{legal}
use Rattle.words.specs.Words.{size_of}
use Rattle.walk.specs.declared.Walked.{Walked}
use Rattle.walk.specs.Demand.{Demand3, needed}
use Rattle.walk.specs.Given.{GoodRegisters, Accepted, Given}
use Rattle.walk.specs.Given.Given.{illegal, bad, low, off, short, spent, done}
use Rattle.walk.specs.Walk.{plain_walk, walked, bad_registers, distance, refusal_of, walk_of}
use Rattle.walk.specs.Lengths.{Typed}
use Rattle.walk.proofs.Accepted.{registers_good, refused_4, refused_10, refused_2, refused_3, refused_11, accepted_when, accepted_within}
use Rattle.walk.proofs.Answered.{answer_accepted, answer-refused}
use Rattle.walk.proofs.Demands.{demand3}

module _ (size n m d k budget : ℕ) (s : State) (l : List ℕ) (typed : Typed s) where
  -- a refusal before 12 is the walk's reply
  refused : (r : Reply) → refusal_of size n m d k s (length l) ≡ r → is_done r ≡ false → (walk_of size n m d k budget s l).reply ≡ r
  refused r e h = ap (λ (w : Walked). w.reply) (answer-refused size n m d k budget s l (ap is_done e ∙ h)) ∙ e

  module _ (a : Accepted size n m d k s (length l)) where
    accepted : refusal_of size n m d k s (length l) ≡ Ok tt
    accepted = (accepted_when size n m d k s (length l)).0 a

    answer : (walk_of size n m d k budget s l).reply ≡ (walked (plain_walk (size_of size) n m d k budget s l)).reply
    answer = ap (λ (w : Walked). w.reply) (answer_accepted size n m d k budget s l accepted)

    demand : Demand3 (size_of size) n m d k budget s l (plain_walk (size_of size) n m d k budget s l).list (walked (plain_walk (size_of size) n m d k budget s l))
    demand = demand3 (size_of size) n m d k s l (accepted_within size n m d k s l typed accepted) budget

  -- a reply that the table gives is the walk's
  given_reply : (r : Reply) → Given size n m d k budget s (length l) r → (walk_of size n m d k budget s l).reply ≡ r
  given_reply (Err IllegalState) (illegal h) = refused (Err IllegalState) (refused_4 size n m d k s (length l) h) refl
  given_reply (Err BadWalkRegisters) (bad ok h) = refused (Err BadWalkRegisters) (refused_10 size n m d k s (length l) ok h) refl
  given_reply (Err LevelTooLow) (low ok g h) = refused (Err LevelTooLow) (refused_2 size n m d k s (length l) ok g h) refl
  given_reply (Err AccessOff) (off ok g v h) = refused (Err AccessOff) (refused_3 size n m d k s (length l) ok g v h) refl
  given_reply (Err ListTooShort) (short ok g v on h) = refused (Err ListTooShort) (refused_11 size n m d k s (length l) ok g v on h) refl
  given_reply (Err BudgetSpent) (spent a h) = answer a ∙ ((demand a).short h).reply
  given_reply (Ok tt) (done a h) = answer a ∙ ((demand a).enough h).reply
  given_reply (Err ForeignWord) none = elim none [ ]
  given_reply (Err ImageCut) none = elim none [ ]
  given_reply (Err NotAllowed) none = elim none [ ]
  given_reply (Err TrailingBytes) none = elim none [ ]
  given_reply (Err BufferTooSmall) none = elim none [ ]
  given_reply (Err FieldPastRange) none = elim none [ ]
  given_reply (Err UnsupportedForm) none = elim none [ ]
  given_reply (Err NotMonotonic) none = elim none [ ]
  given_reply (Err NotOwned) none = elim none [ ]

  -- and one of its rows applies
  row : (r : Reply) × Given size n m d k budget s (length l) r
  row = by_legality (legal s) refl
    where
      by_budget : Accepted size n m d k s (length l) → (r : Reply) × Given size n m d k budget s (length l) r
      by_budget a =
          elim (dec_lt budget (needed (size_of size) n m s)) [
            | yes h ↦ ((Err BudgetSpent), spent a h)
            | no h ↦ ((Ok tt), done a (omega arith))
          ]

      by_room : legal s ≡ true → GoodRegisters size n m d k → 0 < s.level → s.access ≡ true → (r : Reply) × Given size n m d k budget s (length l) r
      by_room ok g v on =
          elim (dec_lt (length l) (distance n m s)) [
            | yes h ↦ ((Err ListTooShort), short ok g v on h)
            | no h ↦ by_budget (record { legal_is = ok; registers = g; present = v; on = on; room = omega arith })
          ]

      by_access : legal s ≡ true → GoodRegisters size n m d k → 0 < s.level → (b : Bool) → s.access ≡ b → (r : Reply) × Given size n m d k budget s (length l) r
      by_access ok g v true on = by_room ok g v on
      by_access ok g v false h = ((Err AccessOff), off ok g v h)

      by_level : legal s ≡ true → GoodRegisters size n m d k → (r : Reply) × Given size n m d k budget s (length l) r
      by_level ok g =
          elim (dec_lt 0 s.level) [
            | yes v ↦ by_access ok g v s.access refl
            | no h ↦ ((Err LevelTooLow), low ok g (omega arith))
          ]

      by_registers : legal s ≡ true → (b : Bool) → bad_registers size n m d k ≡ b → (r : Reply) × Given size n m d k budget s (length l) r
      by_registers ok true h = ((Err BadWalkRegisters), bad ok h)
      by_registers ok false h = by_level ok ((registers_good size n m d k).1 h)

      by_legality : (b : Bool) → legal s ≡ b → (r : Reply) × Given size n m d k budget s (length l) r
      by_legality true ok = by_registers ok (bad_registers size n m d k) refl
      by_legality false h = ((Err IllegalState), illegal h)

  pub walk_exactly_when : (r : Reply) → ((walk_of size n m d k budget s l).reply ≡ r) ↔ Given size n m d k budget s (length l) r
  walk_exactly_when r = (there, given_reply r)
    where
      there : (walk_of size n m d k budget s l).reply ≡ r → Given size n m d k budget s (length l) r
      there e = let (q, g) = row in subst (Given size n m d k budget s (length l)) (sym (given_reply q g) ∙ e) g
