-- An instruction and its fields: building undoes taking the fields, and the other way round.
use Prim.Native.Nat.{ℕ, zero, suc, ◌<◌, ◌/◌, ◌%◌, ◌^◌}
use mathlib.Core.Path.{◌≡◌, refl, sym, ap, ◌∙◌}
use mathlib.Core.List.{◌∷◌}
use lib.ListN.{length, get_or}
use mathlib.Core.Bool.{Bool, true, false}
use native.Mathlib.Nat.{mod-lt}
use native.Mathlib.Omega.{arith}
use lib.Pow.{pow_pos}
use Rattle.bits.specs.Choice.{pick, digit}
use Rattle.bits.specs.Size.{shift}
use Rattle.bits.specs.declared.Size.{Size}
use Rattle.bits.specs.declared.Size.TheVariants as Sz
use Rattle.words.specs.Layout.{slice, cut, from}
use Rattle.words.specs.Words.{forms, form_at, numbers_of, flag, size_of, condition_of, eq_bit, operation_bits, operation_of, operation_number, form_of, fields_of, instruction_in, level_of}
use Rattle.scalars.specs.While.{upward}
use Rattle.scalars.specs.declared.Condition.{Condition}
use Rattle.scalars.specs.declared.Condition.TheVariants.{Less, LessEqual, GreaterEqual, Greater}
use Rattle.words.specs.declared.Target.{Target}
use Rattle.words.specs.declared.Target.TheVariants.{One, Pair, Counter}
use Rattle.words.specs.declared.Operation.{Operation}
use Rattle.words.specs.declared.Operation.TheVariants.{And, Bic, Eor, Sel, Orr, Orn, Nor, Nand}
use Rattle.words.specs.declared.Instruction.{Instruction}
use Rattle.words.specs.declared.Instruction.TheVariants.{While, Saturating, IncDec, Cntp, CntpCounter, Pnext, Pfirst, Ptest, Pfalse, Logic, Setffr, Wrffr, Rdffr, RdffrPg, RdffrsPg}

flag-digit : (b : Bool) → flag (digit b) ≡ b
flag-digit true = refl
flag-digit false = refl

size-shift : (s : Size) → size_of (shift s) ≡ s
size-shift Sz.B = refl
size-shift Sz.H = refl
size-shift Sz.S = refl
size-shift Sz.D = refl

condition_bits : (c : Condition) → condition_of (upward c) (eq_bit c) ≡ c
condition_bits Less = refl
condition_bits LessEqual = refl
condition_bits GreaterEqual = refl
condition_bits Greater = refl

operation_bits_lem : (o : Operation) → operation_of (operation_bits (operation_number o / 4 % 2) (operation_number o / 2 % 2) (operation_number o % 2)) ≡ o
operation_bits_lem And = refl
operation_bits_lem Bic = refl
operation_bits_lem Eor = refl
operation_bits_lem Sel = refl
operation_bits_lem Orr = refl
operation_bits_lem Orn = refl
operation_bits_lem Nor = refl
operation_bits_lem Nand = refl

ruleset building = (flag-digit, size-shift, condition_bits, operation_bits_lem)

build_while : (c : Condition) (u : Bool) (t : Target) (s : Size) (rn rm : ℕ) → from (form_of (While c u t s rn rm)).build (fields_of (While c u t s rn rm)) ≡ While c u t s rn rm
build_while c u (One w pd) s rn rm = simp building
build_while c u (Pair pd) s rn rm = simp building
build_while c u (Counter f pnd) s rn rm = simp building

-- an instruction is built from its fields
pub build_fields : (i : Instruction) → from (form_of i).build (fields_of i) ≡ i
build_fields (While c u t s rn rm) = build_while c u t s rn rm
build_fields (Saturating d u w s pm rdn) = simp building
build_fields (IncDec d s pm rdn) = simp building
build_fields (Cntp s pg pn rd) = simp building
build_fields (CntpCounter f s pnn rd) = simp building
build_fields (Pnext s pv pdn) = simp building
build_fields (Pfirst pg pdn) = refl
build_fields (Ptest pg pn) = refl
build_fields (Pfalse pd) = refl
build_fields (Logic o s pm pg pn pd) = simp building
build_fields Setffr = refl
build_fields (Wrffr pn) = refl
build_fields (Rdffr pd) = refl
build_fields (RdffrPg pg pd) = refl
build_fields (RdffrsPg pg pd) = refl

digit-flag : (n : ℕ) → n < 2 → digit (flag n) ≡ n
digit-flag zero h = refl
digit-flag (suc zero) h = refl
digit-flag (suc (suc n)) h = absurd (omega arith)

shift-size : (n : ℕ) → n < 4 → shift (size_of n) ≡ n
shift-size zero h = refl
shift-size (suc zero) h = refl
shift-size (suc (suc zero)) h = refl
shift-size (suc (suc (suc zero))) h = refl
shift-size (suc (suc (suc (suc n)))) h = absurd (omega arith)

slice-digit : (lo w : ℕ) → digit (flag (slice lo 1 w)) ≡ slice lo 1 w
slice-digit lo w = digit-flag (slice lo 1 w) (mod-lt (w / 2 ^ lo) (pow_pos 1))

slice-size : (lo w : ℕ) → shift (size_of (slice lo 2 w)) ≡ slice lo 2 w
slice-size lo w = shift-size (slice lo 2 w) (mod-lt (w / 2 ^ lo) (pow_pos 2))

lt_condition : (l e : Bool) → upward (condition_of l e) ≡ l
lt_condition true true = refl
lt_condition true false = refl
lt_condition false true = refl
lt_condition false false = refl

eq_condition : (l e : Bool) → eq_bit (condition_of l e) ≡ e
eq_condition true true = refl
eq_condition true false = refl
eq_condition false true = refl
eq_condition false false = refl

operation_number_lem : (n : ℕ) → n < 8 → operation_number (operation_of n) ≡ n
operation_number_lem zero h = refl
operation_number_lem (suc zero) h = refl
operation_number_lem (suc (suc zero)) h = refl
operation_number_lem (suc (suc (suc zero))) h = refl
operation_number_lem (suc (suc (suc (suc zero)))) h = refl
operation_number_lem (suc (suc (suc (suc (suc zero))))) h = refl
operation_number_lem (suc (suc (suc (suc (suc (suc zero)))))) h = refl
operation_number_lem (suc (suc (suc (suc (suc (suc (suc zero))))))) h = refl
operation_number_lem (suc (suc (suc (suc (suc (suc (suc (suc n)))))))) h = absurd (omega arith)

-- the three bits of an operation that was read
module _ (i j k w : ℕ) where
  abbrev a : ℕ
  a = slice i 1 w

  abbrev b : ℕ
  b = slice j 1 w

  abbrev d : ℕ
  d = slice k 1 w

  are_bits : (a < 2) × (b < 2) × (d < 2)
  are_bits = (mod-lt (w / 2 ^ i) (pow_pos 1), mod-lt (w / 2 ^ j) (pow_pos 1), mod-lt (w / 2 ^ k) (pow_pos 1))

  number_read : operation_number (operation_of (operation_bits a b d)) ≡ operation_bits a b d
  number_read = operation_number_lem (operation_bits a b d) (omega (arith, are_bits))

  op-read : operation_number (operation_of (operation_bits a b d)) / 4 % 2 ≡ a
  op-read = omega (arith, number_read, are_bits)

  o2-read : operation_number (operation_of (operation_bits a b d)) / 2 % 2 ≡ b
  o2-read = omega (arith, number_read, are_bits)

  o3-read : operation_number (operation_of (operation_bits a b d)) % 2 ≡ d
  o3-read = omega (arith, number_read, are_bits)

ruleset reading_back = (slice-digit, slice-size, lt_condition, eq_condition, op-read, o2-read, o3-read)

-- what each form reads has the form's number, and the word's fields
pub read_back : (n w : ℕ) → n < length forms → numbers_of (instruction_in (form_at n) w) ≡ n ∷ cut (form_at n).layout w
read_back zero w l = simp reading_back
read_back (suc zero) w l = simp reading_back
read_back (suc (suc zero)) w l = simp reading_back
read_back (suc (suc (suc zero))) w l = simp reading_back
read_back (suc (suc (suc (suc zero)))) w l = simp reading_back
read_back (suc (suc (suc (suc (suc zero))))) w l = simp reading_back
read_back (suc (suc (suc (suc (suc (suc zero)))))) w l = simp reading_back
read_back (suc (suc (suc (suc (suc (suc (suc zero))))))) w l = simp reading_back
read_back (suc (suc (suc (suc (suc (suc (suc (suc zero)))))))) w l = refl
read_back (suc (suc (suc (suc (suc (suc (suc (suc (suc zero))))))))) w l = refl
read_back (suc (suc (suc (suc (suc (suc (suc (suc (suc (suc zero)))))))))) w l = refl
read_back (suc (suc (suc (suc (suc (suc (suc (suc (suc (suc (suc zero))))))))))) w l = simp reading_back
read_back (suc (suc (suc (suc (suc (suc (suc (suc (suc (suc (suc (suc zero)))))))))))) w l = refl
read_back (suc (suc (suc (suc (suc (suc (suc (suc (suc (suc (suc (suc (suc zero))))))))))))) w l = refl
read_back (suc (suc (suc (suc (suc (suc (suc (suc (suc (suc (suc (suc (suc (suc zero)))))))))))))) w l = refl
read_back (suc (suc (suc (suc (suc (suc (suc (suc (suc (suc (suc (suc (suc (suc (suc zero))))))))))))))) w l = refl
read_back (suc (suc (suc (suc (suc (suc (suc (suc (suc (suc (suc (suc (suc (suc (suc (suc zero)))))))))))))))) w l = refl
read_back (suc (suc (suc (suc (suc (suc (suc (suc (suc (suc (suc (suc (suc (suc (suc (suc (suc n))))))))))))))))) w l = absurd (omega arith)

-- an instruction's form is one of the table
pub number_lt : (i : Instruction) → get_or (numbers_of i) 0 0 < length forms
number_lt (While c u (One w pd) s rn rm) = omega arith
number_lt (While c u (Pair pd) s rn rm) = omega arith
number_lt (While c u (Counter f pnd) s rn rm) = omega arith
number_lt (Saturating d u w s pm rdn) = omega arith
number_lt (IncDec d s pm rdn) = omega arith
number_lt (Cntp s pg pn rd) = omega arith
number_lt (CntpCounter f s pnn rd) = omega arith
number_lt (Pnext s pv pdn) = omega arith
number_lt (Pfirst pg pdn) = omega arith
number_lt (Ptest pg pn) = omega arith
number_lt (Pfalse pd) = omega arith
number_lt (Logic o s pm pg pn pd) = omega arith
number_lt Setffr = omega arith
number_lt (Wrffr pn) = omega arith
number_lt (Rdffr pd) = omega arith
number_lt (RdffrPg pg pd) = omega arith
number_lt (RdffrsPg pg pd) = omega arith

-- the level of an instruction that is known by its form, and of a WHILE that is known by its target
pub level_is : {i j : Instruction} {n : ℕ} → i ≡ j → n ≡ level_of j → n ≡ level_of i
level_is e h = h ∙ sym (ap level_of e)

pub level_as : {i : Instruction} {c : Condition} {u : Bool} {t v : Target} {s : Size} {rn rm n : ℕ} → i ≡ While c u t s rn rm → t ≡ v → n ≡ level_of (While c u v s rn rm) → n ≡ level_of i
level_as {c = c} {u = u} {s = s} {rn = rn} {rm = rm} e f h = h ∙ sym (ap level_of e ∙ ap (λ (x : Target). level_of (While c u x s rn rm)) f)

-- WHILE one's, by the way that it counts
pub level_up : {b : Bool} (c : Condition) → b ≡ upward c → b ≡ true → ◌≡◌ {A = ℕ} 1 (pick (flag (digit (upward c))) 1 2)
level_up c e h = sym (ap (λ (x : Bool). pick (flag (digit x)) 1 2) (sym e ∙ h))

pub level_down : {b : Bool} (c : Condition) → b ≡ upward c → b ≡ false → ◌≡◌ {A = ℕ} 2 (pick (flag (digit (upward c))) 1 2)
level_down c e h = sym (ap (λ (x : Bool). pick (flag (digit x)) 1 2) (sym e ∙ h))
