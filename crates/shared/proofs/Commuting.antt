-- The order in which the two kernels take their turns does not matter: one action of each, and any two orders of the same actions. Assumes nothing.
use mathlib.Core.Bool.{Bool, true, false, ◌&&◌}
use mathlib.Core.List.{List, [], ◌∷◌}
use mathlib.Core.Path.{◌≡◌, refl, sym, ap, ap₂, ◌∙◌}
use Prim.Native.Nat.{ℕ, ◌≤◌, ◌<◌}
use native.Mathlib.Decide.{dec_lt}
use native.Mathlib.Omega.{arith}
use lib.ListN.{length}
use lib.Seq.{ext_get_or}
use borrow.Author.Tests.{lt-ltb, le-leb}
use Rattle.predicates.specs.declared.Flags.{Flags}
use Rattle.predicates.specs.Predicate.{all_false}
use Rattle.tally.specs.Counts.{no_counts}
use Rattle.registers.specs.declared.State.{State}
use Rattle.registers.specs.Legal.{legal}
use Rattle.registers.specs.State.{assembled, ffr, read_x, read_p, read_counts}
use Rattle.registers.proofs.Legality.{legal_sized}
use Rattle.registers.proofs.Registers.{Sized}
use Rattle.shared.specs.declared.Kernel.TheVariants.{First, Second}
use Rattle.shared.specs.declared.Shared.{Shared}
use Rattle.shared.specs.Ownership.{owns_x, owns_p}
use Rattle.shared.specs.Schedule.{Action, Turn, answer_of, after_action, after_turns, actions_of, answers_of, Alike}
use Rattle.shared.specs.Isolation.{Commutes}
use Rattle.shared.proofs.Naming.{nobodys}
use Rattle.shared.proofs.Actions.{alike_counts, frame_alike, action_kept, action_frame, action_alike, illegal_action}
use Rattle.shared.proofs.Isolation.{alike_self, turns_kept, isolation}

-- ---- what is alike to both, FFR besides, is the same

second_x : (r : ℕ) → 16 ≤ r → r < 31 → owns_x Second r ≡ true
second_x r l h = ap₂ ◌&&◌ (le-leb 16 r l) (lt-ltb r 31 h)

second_p : (r : ℕ) → 8 ≤ r → r < 16 → owns_p Second r ≡ true
second_p r l h = ap₂ ◌&&◌ (le-leb 8 r l) (lt-ltb r 16 h)

module _ (s t : Shared) (ks : legal s.state ≡ true) (kt : legal t.state ≡ true) (first : Alike First s t) (second : Alike Second s t) (fault : read_p s.state ffr ≡ read_p t.state ffr) where
  left : Sized s.state
  left = legal_sized s.state ks

  right : Sized t.state
  right = legal_sized t.state kt

  all_x : (r : ℕ) → r < length s.state.x → read_x s.state r ≡ read_x t.state r
  all_x r l =
      elim (dec_lt r 16) [
        | yes h ↦ first.x r (lt-ltb r 16 h)
        | no h ↦ second.x r (second_x r (omega arith) (omega (arith, left.xs)))
      ]

  all_p : (r : ℕ) → r < length s.state.p → read_p s.state r ≡ read_p t.state r
  all_p r l =
      elim (dec_lt r 8) [
        | yes h ↦ first.p r (lt-ltb r 8 h)
        | no h ↦ elim (dec_lt r 16) [
          | yes k ↦ second.p r (second_p r (omega arith) k)
          | no k ↦
              let e : r ≡ ffr = omega (arith, left.ps) in
              ap (read_p s.state) e ∙ fault ∙ sym (ap (read_p t.state) e)
        ]
      ]

  all_counts_lem : (r : ℕ) → r < length s.state.counts → read_counts s.state r ≡ read_counts t.state r
  all_counts_lem r l =
      elim (dec_lt r 8) [
        | yes h ↦ alike_counts First s t ks kt first r (lt-ltb r 8 h)
        | no h ↦ alike_counts Second s t ks kt second r (second_p r (omega arith) (omega (arith, left.cs)))
      ]

  -- flags: the first's stand in the state, the second's beside it
  pub alike_is : s ≡ t
  alike_is =
      ap₂ (λ (x : State) (f : Flags). record { state = x; second = f }) states second.flags
    where
      states : s.state ≡ t.state
      states =
          ap₂ (λ (v l : ℕ). assembled v l s.state.access s.state.flags s.state.x s.state.p s.state.counts) first.vl first.level
          ∙ ap₂ (λ (c : Bool) (f : Flags). assembled t.state.vl t.state.level c f s.state.x s.state.p s.state.counts) first.access first.flags
          ∙ ap (λ (x : List ℕ). assembled t.state.vl t.state.level t.state.access t.state.flags x s.state.p s.state.counts)
          (ext_get_or 0 s.state.x t.state.x (left.xs ∙ sym right.xs) all_x)
          ∙ ap₂ (assembled t.state.vl t.state.level t.state.access t.state.flags t.state.x)
          (ext_get_or all_false s.state.p t.state.p (left.ps ∙ sym right.ps) all_p) (ext_get_or no_counts s.state.counts t.state.counts (left.cs ∙ sym right.cs) all_counts_lem)

-- ---- schedules

-- no schedule touches FFR
pub turns_ffr : (us : List Turn) (s : Shared) → legal s.state ≡ true → read_p (after_turns s us).state ffr ≡ read_p s.state ffr
unfolding after_turns
turns_ffr [] s k = refl
turns_ffr (u ∷ us) s k =
    turns_ffr us (after_action u.kernel s u.action) (action_kept u.kernel s u.action k) ∙ (action_frame u.kernel s u.action k).p ffr (nobodys u.kernel)

-- two orders of the same words and walks: each kernel is answered alike, and the shared state is the same
pub interleaved : (s : Shared) (us vs : List Turn) → legal s.state ≡ true → actions_of First us ≡ actions_of First vs → actions_of Second us ≡ actions_of Second vs
    → (answers_of First s us ≡ answers_of First s vs) × (answers_of Second s us ≡ answers_of Second s vs) × (after_turns s us ≡ after_turns s vs)
interleaved s us vs k e f =
    let first = isolation First s s us vs k k (alike_self First s) e in
    let second = isolation Second s s us vs k k (alike_self Second s) f in (
      first.answers,
      second.answers,
      alike_is (after_turns s us) (after_turns s vs) (turns_kept us s k) (turns_kept vs s k) first.after second.after (turns_ffr us s k ∙ sym (turns_ffr vs s k)),
    )

-- ---- one action of each

module _ (s : Shared) (a b : Action) where
  either_order : legal s.state ≡ true → after_action Second (after_action First s a) b ≡ after_action First (after_action Second s b) a
  unfolding after_turns actions_of
  either_order k =
      let first : Turn = record { kernel = First; action = a } in
      let second : Turn = record { kernel = Second; action = b } in
      (interleaved s (first ∷ second ∷ []) (second ∷ first ∷ []) k refl refl).2

  legal-commutes : legal s.state ≡ true → Commutes s a b
  legal-commutes k =
      let after_a = after_action First s a in
      let after_b = after_action Second s b in
      let to_b : Alike First s after_b = frame_alike First s after_b (action_frame Second s b k) in
      let to_a : Alike Second s after_a = frame_alike Second s after_a (action_frame First s a k) in
      (sym (action_alike First s after_b a k (action_kept Second s b k) to_b).0, sym (action_alike Second s after_a b k (action_kept First s a k) to_a).0, either_order k)

  -- whatever the state: one that reply 4 refuses stays as it is
  pub commuting : Commutes s a b
  commuting = go (legal s.state) refl
    where
      go : (t : Bool) → legal s.state ≡ t → Commutes s a b
      go true e = legal-commutes e
      go false e =
          let ea = illegal_action First s a e in
          let eb = illegal_action Second s b e in
          (ap (λ (x : Shared). answer_of First x a) eb, ap (λ (x : Shared). answer_of Second x b) ea, ap (λ (x : Shared). after_action Second x b) ea ∙ eb ∙ sym ea ∙ sym (ap (λ (x : Shared). after_action First x a) eb))
