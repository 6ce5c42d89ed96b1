-- The four instructions on a state whose Xn, Pd, Pk and flags are held apart. Assumes nothing.
use Rattle.std.proofs.Common.{◌≡◌, ℕ, suc, ◌+◌, ◌*◌, ◌%◌, ◌^◌, ◌<◌, ◌≤◌, true, false, not, ◌&&◌, eqb, List, sym, refl, ap, ◌∙◌, ap₂, arith, w64}
use lib.Seq.{set-get_or}
use Rattle.bits.specs.declared.Size.{Size}
use Rattle.bits.specs.Search.{count, first_from, after_last}
use Rattle.bits.specs.Size.{shift}
use Rattle.predicates.specs.declared.Flags.{Flags}
use Rattle.predicates.specs.declared.Predicate.{Predicate}
use Rattle.predicates.specs.PredTest.{pred_test, nzcv, flags_of}
use Rattle.predicates.specs.Predicate.{bit_at, pack, all_false, active, touched, spread, span_of, elements, live_of}
use Rattle.predicates.proofs.Flagging.{flags_back, only-tests}
use Rattle.predicates.proofs.Live.{count-live, last_live}
use Rattle.tally.specs.declared.Counts.{Counts}
use Rattle.tally.specs.Counts.{count_at}
use Rattle.tally.proofs.Same.{count_at_lem}
use Rattle.registers.specs.declared.State.{State}
use Rattle.registers.proofs.Legality.{counts_stay}
use Rattle.registers.specs.State.{read_x, read_p, with_x, with_p, with_flags}
use Rattle.scalars.specs.declared.Condition.TheVariants.{Less}
use Rattle.words.specs.declared.Target.TheVariants.{One}
use Rattle.words.specs.declared.Instruction.TheVariants.{While, IncDec, Pnext, Pfalse}
use Rattle.scalars.specs.Value.{low_of}
use Rattle.scalars.specs.While.{comparison, all_held}
use Rattle.machine.specs.Execute.{execute_of}
use Rattle.instructions.specs.Searches.{next_element, next_result}
use Rattle.instructions.specs.Whiles.{span_flags}
use Rattle.instructions.proofs.SearchLaws.{next-none, next-none_flags, next_found, next_found_bit, next_found_flags}
use Rattle.instructions.proofs.WhileLaws.{held-le, span_flags_lem}
use Rattle.walk.specs.declared.Phase.{Phase}
use Rattle.walk.specs.declared.Phase.TheVariants as P
use Rattle.walk.specs.Walk.{position_at, position_of}
use Rattle.walk.proofs.Accepted.{Within}
use Rattle.walk.proofs.Executed.{executes_pfalse, executes_held, executes_pnext, executes_incp}
use Rattle.walk.proofs.Lanes.{base, sized, get_xn, get_xm, get_pk, get-pd, get_counts, put_pk, put_pd, put_xn, last_single, first_single}

-- what is known of a round's lanes and of the cursor: the lowest bit of the lanes, the end of their bits, and the element from which PNEXT searches
pub record Measured (vl : ℕ) (size : Size) (pd pk : Predicate) (low end from : ℕ) : Type 0 where
  pub low_is : low ≡ first_from (bit_at (pack (λ b. bit_at pd b && bit_at (live_of vl size) b))) 0 256
  pub end_is : end ≡ after_last (bit_at (pack (λ b. bit_at pd b && bit_at (live_of vl size) b))) 256
  pub from_is : from ≡ after_last (active (shift size) pk) (elements vl size)

pub measures : (vl : ℕ) (size : Size) (pd pk v u w : Predicate) (low end from : ℕ) → v ≡ live_of vl size → u ≡ pack (λ b. bit_at pd b && bit_at v b) → low ≡ first_from (bit_at u) 0 256
    → end ≡ after_last (bit_at u) 256 → w ≡ pack (λ b. bit_at pk b && bit_at v b) → from ≡ after_last (touched (shift size) w) 256 → Measured vl size pd pk low end from
measures vl size pd pk v u w low end from live iu il ie iw is =
    let under : (p q : Predicate) → p ≡ pack (λ b. bit_at q b && bit_at v b) → p ≡ pack (λ b. bit_at q b && bit_at (live_of vl size) b) =
    λ p q e. e ∙ ap (λ (r : Predicate). pack (λ b. bit_at q b && bit_at r b)) live in
    record {
      low_is = il ∙ ap (λ (p : Predicate). first_from (bit_at p) 0 256) (under u pd iu);
      end_is = ie ∙ ap (λ (p : Predicate). after_last (bit_at p) 256) (under u pd iu);
      from_is = is ∙ last_live vl size pk w (under w pk iw);
    }

-- the other phases are not PNEXT's
number : Phase → ℕ
number P.Pfalse = 0
number P.Whilelo = 1
number P.Pnext = 2
number P.Incp = 3

pub pfalse-not : P.Pfalse ≡ P.Pnext → ⊥
unfolding number
pfalse-not e = omega (arith, ap number e)

pub whilelo_not : P.Whilelo ≡ P.Pnext → ⊥
unfolding number
whilelo_not e = omega (arith, ap number e)

pub incp_not : P.Incp ≡ P.Pnext → ⊥
unfolding number
incp_not e = omega (arith, ap number e)

pub z_flag : (s : State) (n d k x : ℕ) (pd pk : Predicate) (f : Flags) → (base s n d k x pd pk f).flags.z ≡ f.z
unfolding with_flags
z_flag s n d k x pd pk f = refl

module _ (size : Size) (n m d k : ℕ) (s : State) (l : List ℕ) (g : Within size n m d k s l) where
  pub begins : base s n d k (read_x s n) (read_p s d) (read_p s k) s.flags ≡ s
  unfolding with_x with_p with_flags
  begins = rw (set-get_or s.x n 0, set-get_or s.p d all_false, set-get_or s.p k all_false, counts_stay s d g.ok g.d-below, counts_stay s k g.ok g.k_below)

  module _ (x : ℕ) (pd pk : Predicate) (f : Flags) where
    abbrev here : State
    here = base s n d k x pd pk f

    pub clears : (q : Predicate) → q ≡ all_false → base s n d k x pd q f ≡ execute_of here (Pfalse k)
    unfolding with_x with_p with_flags
    clears q e = ap (λ (p : Predicate). base s n d k x pd p f) e ∙ sym (executes_pfalse here (sized size n m d k s l g x pd pk f) size k ∙ put_pk size n m d k s l g x pd pk f all_false f)

    pub selects : (limit e c w : ℕ) (q : Predicate) (h : Flags) → limit ≡ read_x s m → e ≡ elements s.vl size
        → c ≡ count (all_held (comparison w64 true Less (low_of w64 x) (low_of w64 limit))) e → q ≡ span_of (shift size) 0 c → w ≡ nzcv (span_flags true c e) → h ≡ flags_of w
        → (base s n d k x q pk h ≡ execute_of here (While Less true (One true d) size n m)) × (h.z ≡ eqb c 0)
    unfolding with_x with_p with_flags
    selects limit e c w q h il ie ic iq iw ih =
        let flags = ih ∙ ap flags_of iw ∙ flags_back _ ∙ ap (span_flags true c) ie in
        let held = ic ∙ ap (λ (j : ℕ). count (all_held (comparison w64 true Less (low_of w64 x) (low_of w64 limit))) j) ie
        ∙ ap₂ (λ (a b : ℕ). count (all_held (comparison w64 true Less (low_of w64 a) (low_of w64 b))) (elements s.vl size)) (sym (get_xn size n m d k s l g x pd pk f)) (il ∙ sym (get_xm size n m d k s l g x pd pk f)) in (
          ap₂ (λ (p : Predicate) (y : Flags). base s n d k x p pk y) iq flags
              ∙ sym (executes_held here (sized size n m d k s l g x pd pk f) size n m d c held ∙ put_pd size n m d k s l g x pd pk f _ _),
          ap (λ (y : Flags). y.z) (flags ∙ span_flags_lem true c (elements s.vl size) c (omega (arith, held, held-le (comparison w64 true Less (low_of w64 (read_x here n)) (low_of w64 (read_x here m))) (elements s.vl size)))),
        )

    pub adds : (v w : Predicate) (c y : ℕ) → v ≡ live_of s.vl size → w ≡ pack (λ b. bit_at pd b && bit_at v b) → c ≡ count (bit_at w) 256 → y ≡ (x + c) % 2 ^ 64
        → base s n d k y pd pk f ≡ execute_of here (IncDec false size d n)
    unfolding with_x with_p with_flags
    adds v w c y live under counted sum =
        let is = counted ∙ count-live s.vl size pd w (under ∙ ap (λ (q : Predicate). pack (λ b. bit_at pd b && bit_at q b)) live) in
        let all = sum ∙ ap (λ (j : ℕ). (x + j) % 2 ^ 64) is
        ∙ ap (λ (j : ℕ). (x + j) % 2 ^ 64) (sym (count_at_lem s.vl size pd))
        ∙ ap₂ (λ (a : ℕ) (j : Counts). (a + count_at size j) % 2 ^ 64) (sym (get_xn size n m d k s l g x pd pk f)) (sym (get_counts size n m d k s l g x pd pk f)) in
        sym (executes_incp here (sized size n m d k s l g x pd pk f) size n d y (sym all) ∙ put_xn size n m d k s l g x pd pk f y)

    -- PNEXT, by what its search found
    module _ (low end from e i : ℕ) (known : Measured s.vl size pd pk low end from) (search_is : e ≡ first_from (active (shift size) pd) from i) (elements_are : i ≡ elements s.vl size) where
      found_is : e ≡ next_element size pd pk s.vl
      found_is = search_is ∙ ap₂ (λ (a b : ℕ). first_from (active (shift size) pd) a b) known.from_is elements_are

      abbrev next : Predicate
      next = next_result size pd pk s.vl

      advances : (q : Predicate) (h : Flags) → q ≡ next → h ≡ pred_test (active (shift size) pd) (active (shift size) next) (elements s.vl size) → base s n d k x pd q h ≡ execute_of here (Pnext size d k)
      unfolding with_x with_p with_flags
      advances q h iq ih =
          ap₂ (λ (p : Predicate) (y : Flags). base s n d k x pd p y) iq ih
          ∙ sym (executes_pnext here (sized size n m d k s l g x pd pk f) size d k pd pk next (get-pd size n m d k s l g x pd pk f) (get_pk size n m d k s l g x pd pk f) refl ∙ put_pk size n m d k s l g x pd pk f _ _)

      pub advances_past : i ≤ e → (q : Predicate) → q ≡ all_false → base s n d k x pd q (record { n = false; z = true; c = true; v = false }) ≡ execute_of here (Pnext size d k)
      advances_past past q iq = advances q _ (iq ∙ next-none size pd pk s.vl e i found_is elements_are past) (next-none_flags size pd pk s.vl e i found_is elements_are past)

      pub advances_to : e < i → (q : Predicate) (b : ℕ) → q ≡ pack (spread (shift size) (λ j. eqb j e)) → b ≡ e * 2 ^ shift size
          → base s n d k x pd q (record { n = eqb low b; z = false; c = not (eqb end (b + 1)); v = false }) ≡ execute_of here (Pnext size d k)
      advances_to found q b iq at =
          advances q _ (iq ∙ next_found size pd pk s.vl e i found_is elements_are found)
          ((λ j. record { n = eqb (known.low_is j) b; z = false; c = not (eqb (known.end_is j) (b + 1)); v = false })
          ∙ only-tests _ b bit.0 bit.1 ∙ next_found_flags size pd pk s.vl e i found_is elements_are found _ refl b at)
        where
          bit : (b < 256) × (bit_at (pack (λ j. bit_at pd j && bit_at (live_of s.vl size) j)) b ≡ true)
          bit = next_found_bit size pd pk s.vl e i found_is elements_are found _ refl b at

      pub visits : e < i → (q : Predicate) (h : Flags) → q ≡ pack (spread (shift size) (λ j. eqb j e)) → position_of size n k (base s n d k x pd q h) ≡ (x + e) % 2 ^ 64
      unfolding position_at with_x with_p with_flags
      visits found q h iq =
          ap₂ (λ (a : ℕ) (p : Predicate). (a + first_from (active (shift size) p) 0 (elements s.vl size)) % 2 ^ 64) (get_xn size n m d k s l g x pd q h) (get_pk size n m d k s l g x pd q h ∙ iq)
          ∙ ap (λ (j : ℕ). (x + j) % 2 ^ 64) (first_single s.vl size e (omega (arith, elements_are)))

      pub measured_on : e < i → (q : Predicate) → q ≡ pack (spread (shift size) (λ j. eqb j e)) → Measured s.vl size pd q low end (e + 1)
      measured_on found q iq =
          let same : e + 1 ≡ suc e = omega arith in
          record {
            low_is = known.low_is;
            end_is = known.end_is;
            from_is = same ∙ sym (last_single s.vl size e (omega (arith, elements_are))) ∙ ap (λ (p : Predicate). after_last (active (shift size) p) (elements s.vl size)) (sym iq);
          }
