-- Two states that are the same to a kernel stay so by every instruction that names what the kernel may name; and that instruction changes nothing else. Assumes nothing.
use mathlib.Core.Bool.{Bool, true, false, ◌&&◌}
use mathlib.Core.List.{List}
use mathlib.Core.Path.{◌≡◌, refl, sym, ap, ap₂, ◌∙◌, subst}
use Prim.Native.Nat.{ℕ, ◌<◌}
use native.Mathlib.Decide.{dec_lt, ℕ_discrete}
use native.Mathlib.Omega.{arith}
use lib.ListN.{get_or, set, length, length-set}
use lib.Seq.{set_out, get_or-set_same, get_or-set_other}
use Rattle.bits.specs.Choice.{pick}
use Rattle.bits.proofs.Searches.{never}
use Rattle.predicates.specs.declared.Flags.{Flags}
use Rattle.predicates.specs.declared.Predicate.{Predicate}
use Rattle.predicates.specs.Predicate.{all_false}
use Rattle.tally.specs.declared.Counts.{Counts}
use Rattle.tally.specs.Counts.{counts_of, no_counts}
use Rattle.registers.specs.declared.State.{State}
use Rattle.registers.specs.State.{read_x, read_p, read_counts, with_x, with_p, with_flags}
use Rattle.registers.proofs.Registers.{Sized, with_p_sized}
use Rattle.words.specs.declared.Instruction.{Instruction}
use Rattle.instructions.specs.declared.operands.Registers.{Registers}
use Rattle.instructions.specs.declared.operands.Values.{Values}
use Rattle.instructions.specs.Effect.{Effect}
use Rattle.instructions.specs.Instructions.{compute_of}
use Rattle.instructions.specs.Operands.{registers_of}
use Rattle.machine.specs.Execute.{values_of, apply, execute_of}
use Rattle.machine.proofs.Frame.{untouched}
use Rattle.shared.specs.declared.Kernel.{Kernel}
use Rattle.shared.specs.Ownership.{may_name_x, may_name_p, may_name}

-- what a kernel may name, its flags and the settings are the same in both
pub record Same (who : Kernel) (a b : State) : Type 0 where
  pub vl : a.vl ≡ b.vl
  pub level : a.level ≡ b.level
  pub access : a.access ≡ b.access
  pub flags : a.flags ≡ b.flags
  pub x : (r : ℕ) → may_name_x who r ≡ true → read_x a r ≡ read_x b r
  pub p : (r : ℕ) → may_name_p who r ≡ true → read_p a r ≡ read_p b r
  pub counts : (r : ℕ) → may_name_p who r ≡ true → read_counts a r ≡ read_counts b r
  pub left : Sized a
  pub right : Sized b

-- the second is the first but for what a kernel may name, and for the flags
pub record Apart (who : Kernel) (a b : State) : Type 0 where
  pub vl : b.vl ≡ a.vl
  pub level : b.level ≡ a.level
  pub access : b.access ≡ a.access
  pub x : (r : ℕ) → may_name_x who r ≡ false → read_x b r ≡ read_x a r
  pub p : (r : ℕ) → may_name_p who r ≡ false → read_p b r ≡ read_p a r
  pub counts : (r : ℕ) → may_name_p who r ≡ false → read_counts b r ≡ read_counts a r

pub apart_none : (who : Kernel) (a : State) → Apart who a a
apart_none who a = record { vl = refl; level = refl; access = refl; x = λ r h. refl; p = λ r h. refl; counts = λ r h. refl }

pub apart_on : (who : Kernel) (a b c : State) → Apart who a b → Apart who b c → Apart who a c
apart_on who a b c f g = record {
  vl = g.vl ∙ f.vl;
  level = g.level ∙ f.level;
  access = g.access ∙ f.access;
  x = λ r h. g.x r h ∙ f.x r h;
  p = λ r h. g.p r h ∙ f.p r h;
  counts = λ r h. g.counts r h ∙ f.counts r h;
}

-- ---- all that an instruction names

pub record Named (who : Kernel) (r : Registers) : Type 0 where
  pub rn : may_name_x who r.rn ≡ true
  pub rm : may_name_x who r.rm ≡ true
  pub rd : may_name_x who r.rd ≡ true
  pub pg : may_name_p who r.pg ≡ true
  pub pn : may_name_p who r.pn ≡ true
  pub pm : may_name_p who r.pm ≡ true
  pub pd : may_name_p who r.pd ≡ true
  pub pd2 : may_name_p who r.pd2 ≡ true

pub both : (a b : Bool) → (a && b) ≡ true → (a ≡ true) × (b ≡ true)
both true b e = (refl, e)
both false b e = never e refl

pub all_named : (who : Kernel) (r : Registers) → may_name who r ≡ true → Named who r
unfolding may_name
all_named who r h =
    let (rn, h1) = both _ _ h in
    let (rm, h2) = both _ _ h1 in
    let (rd, h3) = both _ _ h2 in
    let (pg, h4) = both _ _ h3 in
    let (pn, h5) = both _ _ h4 in
    let (pm, h6) = both _ _ h5 in
    let (pd, pd2) = both _ _ h6 in
    record { rn = rn; rm = rm; rd = rd; pg = pg; pn = pn; pm = pm; pd = pd; pd2 = pd2 }

-- ---- one write to both

set_same : {A : Type 0} (l k : List A) (r t : ℕ) (v d : A) → length l ≡ length k → get_or l t d ≡ get_or k t d → get_or (set l r v) t d ≡ get_or (set k r v) t d
set_same {A} l k r t v d long h =
    elim (ℕ_discrete t r) [
      | yes e ↦ elim (dec_lt r (length l)) [
        | yes b ↦
            let at : (m : List A) → r < length m → get_or (set m r v) t d ≡ v = λ m c. ap (λ (i : ℕ). get_or (set m r v) i d) e ∙ get_or-set_same m r v d c in
            at l b ∙ sym (at k (omega arith))
        | no b ↦
            ap (λ (m : List A). get_or m t d) (set_out l r v (omega arith)) ∙ h ∙ sym (ap (λ (m : List A). get_or m t d) (set_out k r v (omega arith)))
      ]
      | no n ↦ get_or-set_other l r t v d n ∙ h ∙ sym (get_or-set_other k r t v d n)
    ]

module _ (who : Kernel) (a b : State) (s : Same who a b) where
  same_flags : (sets : Bool) (f : Flags) → Same who (pick sets (with_flags a f) a) (pick sets (with_flags b f) b)
  unfolding with_flags
  same_flags true f = record {
    vl = s.vl;
    level = s.level;
    access = s.access;
    flags = refl;
    x = s.x;
    p = s.p;
    counts = s.counts;
    left = record { xs = s.left.xs; ps = s.left.ps; cs = s.left.cs };
    right = record { xs = s.right.xs; ps = s.right.ps; cs = s.right.cs };
  }
  same_flags false f = s

  same_x : (r v : ℕ) → Same who (with_x a r v) (with_x b r v)
  unfolding with_x
  same_x r v = record {
    vl = s.vl;
    level = s.level;
    access = s.access;
    flags = s.flags;
    x = λ t h. set_same a.x b.x r t v 0 (s.left.xs ∙ sym s.right.xs) (s.x t h);
    p = s.p;
    counts = s.counts;
    left = record { xs = length-set a.x r v ∙ s.left.xs; ps = s.left.ps; cs = s.left.cs };
    right = record { xs = length-set b.x r v ∙ s.right.xs; ps = s.right.ps; cs = s.right.cs };
  }

  same_p : (r : ℕ) (q : Predicate) → Same who (with_p a r q) (with_p b r q)
  unfolding with_p
  same_p r q = record {
    vl = s.vl;
    level = s.level;
    access = s.access;
    flags = s.flags;
    x = s.x;
    p = λ t h. set_same a.p b.p r t q all_false (s.left.ps ∙ sym s.right.ps) (s.p t h);
    counts = λ t h.
        set_same a.counts b.counts r t (counts_of a.vl q) no_counts (s.left.cs ∙ sym s.right.cs) (s.counts t h)
        ∙ ap (λ (v : ℕ). get_or (set b.counts r (counts_of v q)) t no_counts) s.vl;
    left = with_p_sized a r q s.left;
    right = with_p_sized b r q s.right;
  }

-- ---- one instruction

abbrev valued : Predicate → Predicate → Predicate → Counts → ℕ → ℕ → Values
valued pg pn pm counts rn rm = record { pg = pg; pn = pn; pm = pm; counts = counts; rn = rn; rm = rm }

module _ (who : Kernel) (a b : State) (s : Same who a b) where
  same-apply : (r : Registers) (e : Effect) → Same who (apply a r e) (apply b r e)
  unfolding apply
  same-apply r e =
      let f = same_flags who a b s r.flags e.flags in
      let x = same_x who _ _ f r.rd e.rd in
      let p = same_p who _ _ x r.pd e.pd in
      same_p who _ _ p r.pd2 e.pd2

  pub same-values : (r : Registers) → may_name who r ≡ true → values_of a r ≡ values_of b r
  same-values r h =
      let n = all_named who r h in
      ap (λ (q : Predicate). valued q (read_p a r.pn) (read_p a r.pm) (read_counts a r.pm) (read_x a r.rn) (read_x a r.rm)) (s.p r.pg n.pg)
      ∙ ap₂ (λ (q u : Predicate). valued (read_p b r.pg) q u (read_counts a r.pm) (read_x a r.rn) (read_x a r.rm)) (s.p r.pn n.pn) (s.p r.pm n.pm)
      ∙ ap (λ (c : Counts). valued (read_p b r.pg) (read_p b r.pn) (read_p b r.pm) c (read_x a r.rn) (read_x a r.rm)) (s.counts r.pm n.pm)
      ∙ ap₂ (valued (read_p b r.pg) (read_p b r.pn) (read_p b r.pm) (read_counts b r.pm)) (s.x r.rn n.rn) (s.x r.rm n.rm)

  pub execute-same : (i : Instruction) → may_name who (registers_of i) ≡ true → Same who (execute_of a i) (execute_of b i)
  unfolding execute_of
  execute-same i h =
      subst (λ (e : Effect). Same who (execute_of a i) (apply b (registers_of i) e))
      (ap₂ (compute_of i) (same-values (registers_of i) h) s.vl)
      (same-apply (registers_of i) (compute_of i (values_of a (registers_of i)) a.vl))

-- it changes nothing that the kernel may not name
pub execute_apart : (who : Kernel) (a : State) (i : Instruction) → may_name who (registers_of i) ≡ true → Apart who a (execute_of a i)
execute_apart who a i h =
    let n = all_named who (registers_of i) h in
    let u = untouched a i in
    let other_x : (r q : ℕ) → may_name_x who r ≡ false → may_name_x who q ≡ true → r ≡ q → ⊥ = λ r q f t e. never (ap (may_name_x who) e ∙ t) f in
    let other_p : (r q : ℕ) → may_name_p who r ≡ false → may_name_p who q ≡ true → r ≡ q → ⊥ = λ r q f t e. never (ap (may_name_p who) e ∙ t) f in
    record {
      vl = u.settings.vl;
      level = u.settings.level;
      access = u.settings.access;
      x = λ r f. u.x r (other_x r _ f n.rd);
      p = λ r f. u.p r (other_p r _ f n.pd) (other_p r _ f n.pd2);
      counts = λ r f. u.counts r (other_p r _ f n.pd) (other_p r _ f n.pd2);
    }
