-- Laws of legality: what a legal state has, and that writes keep it. Facts over the vector length are over VL = 128 q. Assumes nothing.
use mathlib.Core.Bool.{Bool, true, false, not, ◌&&◌, ◌||◌}
use mathlib.Core.List.{List, [], ◌∷◌}
use mathlib.Core.Path.{◌≡◌, refl, sym, ap, ap₂, ◌∙◌}
use Prim.Native.Nat.{ℕ, zero, suc, ◌+◌, ◌*◌, ◌^◌, ◌≤◌, ◌<◌}
use native.Mathlib.Decide.{ℕ_discrete}
use native.Mathlib.Nat.{le_trans, le_of_eq}
use native.Mathlib.Numerals.{add-one}
use native.Mathlib.Omega.{arith}
use lib.Dec.{leb, eqb}
use lib.ListN.{get_or, set, length, length-set}
use lib.Seq.{ext_get_or, set-get_or}
use lib.Pow.{pow_pos, pow_mono}
use borrow.Author.Tests.{ne_eqb, eqb-true, le-leb, leb-true}
use Rattle.bits.specs.Search.{some}
use Rattle.bits.proofs.Searches.{never, some_cong, some-none, some_no, some_swap, some-and}
use Rattle.predicates.specs.declared.Flags.{Flags}
use Rattle.predicates.specs.declared.Predicate.{Predicate}
use Rattle.predicates.specs.Predicate.{bit_at, pack, predicate_length, has_bit_from}
use Rattle.predicates.proofs.Words.{pack-bit, pack_cong}
use Rattle.bits.specs.declared.Size.{Size}
use Rattle.tally.specs.declared.Counts.{Counts}
use Rattle.tally.specs.Counts.{true_elements, counts_of, no_counts, count_at}
use Rattle.tally.proofs.Same.{same_is, is_same, count_at_lem}
use Rattle.registers.specs.declared.State.{State}
use Rattle.registers.specs.Legal.{has_all_registers, is_length, settings_allowed, has_stray_bit, has_wrong_count, illegal, legal}
use Rattle.registers.specs.State.{all_false, assembled, all_counts, counted, read_p, read_counts, with_x, with_p, with_flags}
use Rattle.registers.proofs.Registers.{Sized, with_p_sized, read_p-same, read_p-other, read_counts-same, read_counts-other, all_length, all_read}

-- ---- the number of registers

both : (a b : Bool) → (a && b) ≡ true → (a ≡ true) × (b ≡ true)
both true b e = (refl, e)
both false b e = never e refl

pub all_sized : (s : State) → has_all_registers s ≡ true → Sized s
unfolding has_all_registers
all_sized s h =
    let (x, rest) = both (eqb (length s.x) 31) _ h in
    let (p, c) = both (eqb (length s.p) 17) (eqb (length s.counts) 16) rest in
    record { xs = eqb-true (length s.x) 31 x; ps = eqb-true (length s.p) 17 p; cs = eqb-true (length s.counts) 16 c }

pub sized_all : (s : State) → Sized s → has_all_registers s ≡ true
unfolding has_all_registers
sized_all s z = rw (z.xs, z.ps, z.cs)

-- as the code tests it
pub all_there : (s : State) (t : Bool) → t ≡ has_all_registers s → not t ≡ false → Sized s
all_there s true h n = all_sized s (sym h)
all_there s false h n = never refl n

-- ---- the test, case by case

pub not_all : (s : State) (t : Bool) → t ≡ has_all_registers s → not t ≡ true → false ≡ legal s
unfolding illegal
not_all s true h n = never n refl
not_all s false h n = ap (λ (b : Bool). not (not b || (not (settings_allowed s.vl s.level) || (has_stray_bit s || has_wrong_count s)))) h

pub not_allowed : (s : State) (t : Bool) → t ≡ settings_allowed s.vl s.level → not t ≡ true → false ≡ legal s
unfolding illegal
not_allowed s true h n = never n refl
not_allowed s false h n = sym (or-true (not (has_all_registers s))) ∙ ap (λ (b : Bool). not (not (has_all_registers s) || (not b || (has_stray_bit s || has_wrong_count s)))) h
  where
    or-true : (b : Bool) → not (b || true) ≡ false
    or-true true = refl
    or-true false = refl

allowed : (s : State) (t : Bool) → Sized s → t ≡ settings_allowed s.vl s.level → not t ≡ false → not (has_stray_bit s || has_wrong_count s) ≡ legal s
unfolding illegal
allowed s false z h n = never refl n
allowed s true z h n =
    ap (λ (b : Bool). not (not b || (has_stray_bit s || has_wrong_count s))) h
    ∙ ap (λ (a : Bool). not (not a || (not (settings_allowed s.vl s.level) || (has_stray_bit s || has_wrong_count s)))) (sym (sized_all s z))

-- a stray bit; or else the counts decide
pub strays : (s : State) (t u : Bool) → Sized s → t ≡ settings_allowed s.vl s.level → not t ≡ false → u ≡ not (has_stray_bit s) → not u ≡ true → false ≡ legal s
strays s t true z h n e m = never m refl
strays s t false z h n e m = ap (λ (b : Bool). not (b || has_wrong_count s)) (flip (has_stray_bit s) e) ∙ allowed s t z h n
  where
    flip : (b : Bool) → false ≡ not b → true ≡ b
    flip true e = refl
    flip false e = sym e

pub by_counts : (s : State) (t : Bool) → Sized s → t ≡ settings_allowed s.vl s.level → not t ≡ false → has_stray_bit s ≡ false → not (has_wrong_count s) ≡ legal s
by_counts s t z h n e = sym (ap (λ (b : Bool). not (b || has_wrong_count s)) e) ∙ allowed s t z h n

-- what allowed settings are
pub settings_has : (vl level : ℕ) → settings_allowed vl level ≡ true → (is_length vl ≡ true) × (level ≤ 3)
settings_has vl level e = let (a, b) = both (is_length vl) (leb level 3) e in (a, leb-true level 3 b)

pub has_settings : (vl level : ℕ) → is_length vl ≡ true → level ≤ 3 → settings_allowed vl level ≡ true
has_settings vl level e l = rw (e, le-leb level 3 l)

-- a stray bit of some predicate is one of their union
pub stray_union : (s : State) (u : Predicate) → Sized s → u ≡ pack (λ b. some (λ r. bit_at (read_p s r) b) (length s.p)) → has_bit_from (predicate_length s.vl) u ≡ has_stray_bit s
unfolding has_bit_from has_stray_bit
stray_union s u z e =
    ap (λ (p : Predicate). some (λ b. leb (predicate_length s.vl) b && bit_at p b) 256) (e ∙ ap (λ (n : ℕ). pack (λ b. some (λ r. bit_at (read_p s r) b) n)) z.ps)
    ∙ some_cong _ _ 256 (λ b h. ap (λ (x : Bool). leb (predicate_length s.vl) b && x) (pack-bit _ b h) ∙ some-and (leb (predicate_length s.vl) b) (λ r. bit_at (read_p s r) b) 17)
    ∙ some_swap (λ b r. leb (predicate_length s.vl) b && bit_at (read_p s r) b) 17 256

-- ---- what a legal state has

pub record Legal (s : State) : Type 0 where
  pub sized : Sized s
  pub len : is_length s.vl ≡ true
  pub level : s.level ≤ 3
  pub bits : (r : ℕ) → r < 17 → has_bit_from (predicate_length s.vl) (read_p s r) ≡ false
  pub counts : (r : ℕ) → r < 16 → counts_of s.vl (read_p s r) ≡ read_counts s r

lawful : (z a b c : Bool) → not (not z || (not a || (b || c))) ≡ true → (z ≡ true) × (a ≡ true) × (b ≡ false) × (c ≡ false)
lawful true true false false h = (refl, refl, refl, refl)
lawful true true false true h = never h refl
lawful true true true c h = never h refl
lawful true false b c h = never h refl
lawful false a b c h = never h refl

pub legal_has : (s : State) → legal s ≡ true → Legal s
unfolding illegal has_stray_bit has_wrong_count
legal_has s h =
    let (z, a, b, c) = lawful (has_all_registers s) (settings_allowed s.vl s.level) (has_stray_bit s) (has_wrong_count s) h in
    let (e, l) = settings_has s.vl s.level a in
    record { sized = all_sized s z; len = e; level = l; bits = some-none _ 17 b; counts = λ r k. same_is _ _ (not-false _ (some-none _ 16 c r k)) }
  where
    not-false : (b : Bool) → not b ≡ false → b ≡ true
    not-false true h = refl
    not-false false h = never refl h

pub has_legal : (s : State) → Legal s → legal s ≡ true
unfolding illegal has_stray_bit has_wrong_count
has_legal s l =
    ap₂ (λ (z a : Bool). not (not z || (not a || (has_stray_bit s || has_wrong_count s)))) (sized_all s l.sized) (has_settings s.vl s.level l.len l.level)
    ∙ ap₂ (λ (b c : Bool). not (b || c)) (some_no _ 17 l.bits) (some_no _ 16 (λ r k. ap not (is_same _ _ (l.counts r k))))

-- it has every register
pub legal_sized : (s : State) → legal s ≡ true → Sized s
legal_sized s h = (legal_has s h).sized

-- VL is 128 times a power of two, and so 128 q with q from 1 to 16
pub powers : (vl : ℕ) → is_length vl ≡ true → (i : ℕ) × (vl ≡ 128 * 2 ^ i) × (i ≤ 4)
unfolding is_length
powers vl h =
    elim (ℕ_discrete vl 128) [
      | yes e ↦ (0, e, omega arith)
      | no a ↦
          elim (ℕ_discrete vl 256) [
            | yes e ↦ (1, e, omega arith)
            | no b ↦
                elim (ℕ_discrete vl 512) [
                  | yes e ↦ (2, e, omega arith)
                  | no c ↦
                      elim (ℕ_discrete vl 1024) [
                        | yes e ↦ (3, e, omega arith)
                        | no d ↦
                            (4, eqb-true vl 2048 (rw (ne_eqb vl 128 a, ne_eqb vl 256 b, ne_eqb vl 512 c, ne_eqb vl 1024 d) at h), omega arith)
                      ]
                ]
          ]
    ]

pub quads : (vl : ℕ) → is_length vl ≡ true → (q : ℕ) × (vl ≡ 128 * q) × (1 ≤ q) × (q ≤ 16)
quads vl h = let (i, e, l) = powers vl h in (2 ^ i, e, pow_pos i, pow_mono {i = i} {j = 4} l)

-- ---- writes keep legality

-- the flags and the values of the X registers do not bear on it
pub same-legal : (s : State) (f : Flags) (x : List ℕ) → length x ≡ length s.x → legal (assembled s.vl s.level s.access f x s.p s.counts) ≡ legal s
unfolding illegal has_all_registers has_stray_bit has_wrong_count
same-legal s f x h =
    ap (λ (n : ℕ). not (not (eqb n 31 && (eqb (length s.p) 17 && eqb (length s.counts) 16)) || (not (settings_allowed s.vl s.level) || (has_stray_bit s || has_wrong_count s)))) h

pub with_x-legal : (s : State) (r v : ℕ) → legal (with_x s r v) ≡ legal s
unfolding with_x
with_x-legal s r v = same-legal s s.flags (set s.x r v) (length-set s.x r v)

pub with_flags-legal : (s : State) (f : Flags) → legal (with_flags s f) ≡ legal s
unfolding with_flags
with_flags-legal s f = same-legal s f s.x refl

read_set : (ps : List Predicate) (r n : ℕ) (q : Predicate) (pl : ℕ) → has_bit_from pl q ≡ false → has_bit_from pl (get_or ps n all_false) ≡ false
    → has_bit_from pl (get_or (set ps r q) n all_false) ≡ false
read_set [] r n q pl hq h = h
read_set (p ∷ ps) zero zero q pl hq h = hq
read_set (p ∷ ps) zero (suc n) q pl hq h = h
read_set (p ∷ ps) (suc r) zero q pl hq h = h
read_set (p ∷ ps) (suc r) (suc n) q pl hq h = read_set ps r n q pl hq h

-- what is kept beside the register written is what is kept beside any other
counts_set : (s : State) (r n : ℕ) (q : Predicate) → Sized s → n < 16 → counts_of s.vl (read_p s n) ≡ read_counts s n → counts_of s.vl (read_p (with_p s r q) n) ≡ read_counts (with_p s r q) n
counts_set s r n q z l h =
    elim (ℕ_discrete n r) [
      | yes e ↦
          ap (λ (m : ℕ). counts_of s.vl (read_p (with_p s r q) m)) e ∙ ap (counts_of s.vl) (read_p-same s r q (omega (arith, z.ps)))
          ∙ sym (ap (read_counts (with_p s r q)) e ∙ read_counts-same s r q (omega (arith, z.cs)))
      | no d ↦ ap (counts_of s.vl) (read_p-other s r n q d) ∙ h ∙ sym (read_counts-other s r n q d)
    ]

bits_set : (s : State) (r n : ℕ) (q : Predicate) → has_bit_from (predicate_length s.vl) q ≡ false → has_bit_from (predicate_length s.vl) (read_p s n) ≡ false
    → has_bit_from (predicate_length s.vl) (read_p (with_p s r q) n) ≡ false
unfolding with_p
bits_set s r n q hq h = read_set s.p r n q (predicate_length s.vl) hq h

same-settings : (s : State) (r : ℕ) (q : Predicate) → (s.vl ≡ (with_p s r q).vl) × (s.level ≡ (with_p s r q).level)
unfolding with_p
same-settings s r q = (refl, refl)

pub with_p-legal : (s : State) (r : ℕ) (q : Predicate) → has_bit_from (predicate_length s.vl) q ≡ false → legal s ≡ true → legal (with_p s r q) ≡ true
with_p-legal s r q hq h =
    let l = legal_has s h in
    let (v, e) = same-settings s r q in
    has_legal (with_p s r q) (record {
      sized = with_p_sized s r q l.sized;
      len = ap is_length (sym v) ∙ l.len;
      level = le_trans (le_of_eq (sym e)) l.level;
      bits = λ n k. ap (λ (t : ℕ). has_bit_from (predicate_length t) (read_p (with_p s r q) n)) (sym v) ∙ bits_set s r n q hq (l.bits n k);
      counts = λ n k. ap (λ (t : ℕ). counts_of t (read_p (with_p s r q) n)) (sym v) ∙ counts_set s r n q l.sized k (l.counts n k);
    })

-- ---- the counts of a legal state are those that are worked out

pub legal-counted : (s : State) → legal s ≡ true → counted s ≡ s
legal-counted s h =
    let l = legal_has s h in
    let z = l.sized in
    ap (assembled s.vl s.level s.access s.flags s.x s.p)
    (ext_get_or no_counts (all_counts s.vl s.p) s.counts (all_length s.vl s.p z.ps ∙ sym z.cs)
    (λ i k. let below : i < 16 = omega (arith, all_length s.vl s.p z.ps) in all_read s.vl s.p i no_counts z.ps below ∙ l.counts i below))

pub kept_bits : (s : State) (r : ℕ) → legal s ≡ true → r < 17 → has_bit_from (predicate_length s.vl) (read_p s r) ≡ false
kept_bits s r h l = (legal_has s h).bits r l

pub kept_counts : (s : State) (r : ℕ) → legal s ≡ true → r < 16 → counts_of s.vl (read_p s r) ≡ read_counts s r
kept_counts s r h l = (legal_has s h).counts r l

-- a register written with what it holds stays as it is, and so do its counts
pub counts_stay : (s : State) (r : ℕ) → legal s ≡ true → r < 16 → set s.counts r (counts_of s.vl (read_p s r)) ≡ s.counts
counts_stay s r h l = ap (set s.counts r) (kept_counts s r h l) ∙ set-get_or s.counts r no_counts

-- what is kept is the number of true elements
pub kept_count : (s : State) (r : ℕ) (size : Size) → legal s ≡ true → r < 16 → count_at size (read_counts s r) ≡ true_elements s.vl size (read_p s r)
kept_count s r size h l = sym (ap (count_at size) (kept_counts s r h l)) ∙ count_at_lem s.vl size (read_p s r)

-- the counts that are worked out are right
pub made_counts : (s : State) → length s.p ≡ 17 → s.counts ≡ all_counts s.vl s.p → (r : ℕ) → r < 16 → counts_of s.vl (read_p s r) ≡ read_counts s r
made_counts s h e r l = sym (ap (λ (c : List Counts). get_or c r no_counts) e ∙ all_read s.vl s.p r no_counts h l)

-- ---- the union, predicate by predicate

abbrev pub union_of : List Predicate → ℕ → Predicate
union_of ps n = pack (λ b. some (λ r. bit_at (get_or ps r all_false) b) n)

pub union-none : (ps : List Predicate) → pack (λ b. false) ≡ union_of ps 0
unfolding some
union-none ps = refl

pub union_more : (ps : List Predicate) (i : ℕ) (p q r : Predicate) → p ≡ get_or ps i all_false → q ≡ union_of ps i → r ≡ pack (λ b. bit_at p b || bit_at q b) → r ≡ union_of ps (i + 1)
unfolding some
union_more ps i p q r hp hq hr =
    hr ∙ pack_cong _ _ (λ b h. rw add-one (ap₂ ◌||◌ (ap (λ (x : Predicate). bit_at x b) hp) (ap (λ (x : Predicate). bit_at x b) hq ∙ pack-bit _ b h)))
