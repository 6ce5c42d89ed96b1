-- Demand 3 holds of the plain walk. Assumes nothing but what `Within` says.
use Rattle.std.specs.Prelude.{Ok, Err}
use Rattle.std.proofs.Common.{◌≡◌, ℕ, ◌+◌, ◌-◌, ◌<◌, ◌≤◌, Bool, List, get_or, refl, ap, ◌∙◌, arith}
use Rattle.bits.specs.declared.Size.{Size}
use Rattle.bits.specs.Choice.{pick}
use Rattle.predicates.specs.Predicate.{elements}
use Rattle.replies.specs.declared.Refusal.TheVariants.{BudgetSpent}
use Rattle.registers.specs.declared.State.{State}
use Rattle.registers.specs.State.{read_x}
use Rattle.walk.specs.Demand.{Finished, Spent, Demand3, needed}
use Rattle.walk.specs.Plain.{WalkInstructions, Walk, run, begin}
use Rattle.walk.specs.Walk.{instructions_of, plain_walk, walked, distance}
use Rattle.walk.proofs.Accepted.{Within}
use Rattle.walk.proofs.Closed.{enough, short, list_run, toward-end, filled, filled_at, filled_past}
use Rattle.walk.proofs.Lanes.{laws, lane_at, Ready, final}
use Rattle.walk.proofs.Runs.{run-add, Later, later_run, count-run}

module _ (size : Size) (n m d k : ℕ) (s : State) (l : List ℕ) (g : Within size n m d k s l) (b : ℕ) where
  abbrev M : WalkInstructions State
  M = instructions_of size n m d k

  abbrev w : Walk State
  w = plain_walk size n m d k b s l

  finished : needed size n m s ≤ b → Finished size n m d k s (walked w)
  finished h =
      let e = enough M s l (read_x s n) (distance n m s) (elements s.vl size) (lane_at size n m d k s) (Ready size n m d k s) (laws size n m d k s l g) g.lanes b h in
      record {
        reply = ap (λ (v : Walk State). pick v.ended (Ok tt) (Err BudgetSpent)) e;
        count = ap (λ (v : Walk State). v.count) e;
        visited = ap (λ (v : Walk State). v.visited) e;
        state = ap (λ (v : Walk State). v.state) e ∙ final size n m d k s l g;
      }

  spent : b < needed size n m s → Spent b (walked w)
  spent h =
      let e = short M s l (read_x s n) (distance n m s) (elements s.vl size) (lane_at size n m d k s) (Ready size n m d k s) (laws size n m d k s l g) g.lanes b h in
      record { reply = ap (λ (z : Bool). pick z (Ok tt) (Err BudgetSpent)) e; count = count-run M b s l e }

  within : w.visited ≤ distance n m s
  within = (toward-end M s l (read_x s n) (distance n m s) (elements s.vl size) (lane_at size n m d k s) (Ready size n m d k s) (laws size n m d k s l g) g.lanes b).further

  list : w.list ≡ filled (read_x s n) l w.visited
  list = list_run M s l (read_x s n) (distance n m s) (elements s.vl size) (lane_at size n m d k s) (Ready size n m d k s) (laws size n m d k s l g) g.lanes b g.room

  -- the same for other files
  pub list_filled : w.list ≡ filled (read_x s n) l w.visited
  list_filled = list

  pub demand3 : Demand3 size n m d k b s l w.list (walked w)
  demand3 = record {
    answer = refl;
    list = refl;
    enough = finished;
    short = spent;
    within = within;
    visits = λ i q. ap (λ (v : List ℕ). get_or v i 0) list ∙ filled_at (read_x s n) l w.visited i q (omega (arith, within, g.room));
    untouched = λ i q. ap (λ (v : List ℕ). get_or v i 0) list ∙ filled_past (read_x s n) l w.visited i q;
    places = (later_run M b (begin s l)).as_long;
  }

-- a walk with a larger budget passes through what the smaller one reaches, and keeps what that wrote
pub larger : {S : Type 0} (m : WalkInstructions S) (a b : ℕ) (u : Walk S) → a ≤ b → (run m b u ≡ run m (b - a) (run m a u)) × Later m (run m a u) (run m b u)
larger m a b u h =
    let split : b ≡ a + (b - a) = omega arith in
    let through : run m b u ≡ run m (b - a) (run m a u) = ap (λ n. run m n u) split ∙ run-add m a (b - a) u in
    (through, rw through (later_run m (b - a) (run m a u)))
