-- Laws of reads and writes. Assumes nothing.
use mathlib.Core.List.{List, [], ◌∷◌, map}
use mathlib.Core.Path.{◌≡◌, refl, sym, ap, ap₂, ◌∙◌}
use Prim.Native.Nat.{ℕ, zero, suc, ◌≤◌, ◌<◌}
use native.Mathlib.Omega.{arith}
use lib.ListN.{get_or, set, take, length, length-set, length-map, get_or-map}
use lib.Seq.{set_out, get_or-set_same, get_or-set_other, get_or-take, length-take-le}
use Rattle.predicates.specs.declared.Predicate.{Predicate}
use Rattle.tally.specs.declared.Counts.{Counts}
use Rattle.tally.specs.Counts.{counts_of, no_counts}
use Rattle.registers.specs.declared.State.{State}
use Rattle.registers.specs.State.{all_false, assembled, all_counts, read_x, read_p, read_counts, with_x, with_p}

-- every register is there (`has_all_registers`), as numbers
pub record Sized (s : State) : Type 0 where
  pub xs : length s.x ≡ 31
  pub ps : length s.p ≡ 17
  pub cs : length s.counts ≡ 16

pub with_p_sized : (s : State) (r : ℕ) (q : Predicate) → Sized s → Sized (with_p s r q)
unfolding with_p
with_p_sized s r q z = record { xs = z.xs; ps = length-set s.p r q ∙ z.ps; cs = length-set s.counts r (counts_of s.vl q) ∙ z.cs }

-- ---- writes past the end vanish

pub with_x_out : (s : State) (r v : ℕ) → length s.x ≤ r → s ≡ with_x s r v
unfolding with_x
with_x_out s r v h = ap (λ (l : List ℕ). assembled s.vl s.level s.access s.flags l s.p s.counts) (sym (set_out s.x r v h))

pub with_p_out : (s : State) (r : ℕ) (q : Predicate) → length s.p ≤ r → length s.counts ≤ r → s ≡ with_p s r q
unfolding with_p
with_p_out s r q h k =
    ap₂ (assembled s.vl s.level s.access s.flags s.x) (sym (set_out s.p r q h)) (sym (set_out s.counts r (counts_of s.vl q) k))

-- FFR has no counts
pub with_p-ffr : (s : State) (r : ℕ) (q : Predicate) → length s.counts ≤ r → assembled s.vl s.level s.access s.flags s.x (set s.p r q) s.counts ≡ with_p s r q
unfolding with_p
with_p-ffr s r q k = ap (assembled s.vl s.level s.access s.flags s.x (set s.p r q)) (sym (set_out s.counts r (counts_of s.vl q) k))

-- ---- what is read after a write

pub read_x-same : (s : State) (r v : ℕ) → r < length s.x → read_x (with_x s r v) r ≡ v
unfolding with_x
read_x-same s r v h = get_or-set_same s.x r v 0 h

pub read_x-other : (s : State) (r t v : ℕ) → (t ≡ r → ⊥) → read_x (with_x s r v) t ≡ read_x s t
unfolding with_x
read_x-other s r t v h = get_or-set_other s.x r t v 0 h

pub read_p-same : (s : State) (r : ℕ) (q : Predicate) → r < length s.p → read_p (with_p s r q) r ≡ q
unfolding with_p
read_p-same s r q h = get_or-set_same s.p r q all_false h

pub read_p-other : (s : State) (r t : ℕ) (q : Predicate) → (t ≡ r → ⊥) → read_p (with_p s r q) t ≡ read_p s t
unfolding with_p
read_p-other s r t q h = get_or-set_other s.p r t q all_false h

pub read_counts-same : (s : State) (r : ℕ) (q : Predicate) → r < length s.counts → read_counts (with_p s r q) r ≡ counts_of s.vl q
unfolding with_p
read_counts-same s r q h = get_or-set_same s.counts r (counts_of s.vl q) no_counts h

pub read_counts-other : (s : State) (r t : ℕ) (q : Predicate) → (t ≡ r → ⊥) → read_counts (with_p s r q) t ≡ read_counts s t
unfolding with_p
read_counts-other s r t q h = get_or-set_other s.counts r t (counts_of s.vl q) no_counts h

-- ---- lists, as the code has them

-- within a list its default does not matter
pub default_any : {A : Type 0} (l : List A) (i : ℕ) (a b : A) → i < length l → get_or l i a ≡ get_or l i b
default_any [] i a b h = absurd (omega arith)
default_any (x ∷ l) zero a b h = refl
default_any (x ∷ l) (suc i) a b h = default_any l i a b (omega arith)

pub length_mapped : (X Y : Type 0) (f : X → Y) (l : List X) (n : ℕ) → length (map f l) ≡ n → length l ≡ n
length_mapped X Y f l n h = sym (length-map l f) ∙ h

-- ---- the counts of all P registers

pub all_length : (vl : ℕ) (p : List Predicate) → length p ≡ 17 → length (all_counts vl p) ≡ 16
unfolding all_counts
all_length vl p h = length-map (take 16 p) (counts_of vl) ∙ length-take-le 16 p (omega arith)

pub all_read : (vl : ℕ) (p : List Predicate) (i : ℕ) (d : Counts) → length p ≡ 17 → i < 16 → get_or (all_counts vl p) i d ≡ counts_of vl (get_or p i all_false)
unfolding all_counts
all_read vl p i d h l =
    default_any (map (counts_of vl) (take 16 p)) i d (counts_of vl all_false) (omega (arith, all_length vl p h))
    ∙ get_or-map (counts_of vl) (take 16 p) i all_false ∙ ap (counts_of vl) (get_or-take 16 p i all_false l)
