-- The table of words, and reading and writing by it.
use Rattle.std.specs.Prelude.{Result}
use Rattle.std.specs.Prelude.{Ok}
use Rattle.replies.specs.declared.Refusal.{Refusal}
use Rattle.std.specs.Prelude.{Err}
use Rattle.std.specs.Prelude.{ℕ, zero, suc, ◌+◌, ◌*◌, ◌/◌, ◌%◌, Bool, true, false, not, ◌&&◌, List, [], ◌∷◌, eqb, get_or, drop}
use Rattle.bits.specs.Choice.{pick, digit}
use Rattle.bits.specs.Size.{shift}
use Rattle.bits.specs.declared.Size.{Size}
use Rattle.bits.specs.declared.Size.TheVariants as Sz
use Rattle.replies.specs.declared.Refusal.TheVariants.{ForeignWord, FieldPastRange, UnsupportedForm}
use Rattle.words.specs.Layout.{Piece, upper, matches, cut, fits, place, FromFields, given, always, from}
use Rattle.words.specs.Layout.Piece.{fixed, field}
use Rattle.words.specs.Fields.{opcode, size, sf, U, lt, eq, D, vl, op, S, o2, o3, Rm, Rn, Rd, Rdn, Pd, Pg, Pm, Pn, Pv, Pdn, PNd, PNn}
use Rattle.scalars.specs.While.{upward}
use Rattle.scalars.specs.declared.Condition.{Condition}
use Rattle.scalars.specs.declared.Condition.TheVariants.{Less, LessEqual, GreaterEqual, Greater}
use Rattle.words.specs.declared.Target.{Target}
use Rattle.words.specs.declared.Target.TheVariants.{One, Pair, Counter}
use Rattle.words.specs.declared.Operation.{Operation}
use Rattle.words.specs.declared.Operation.TheVariants.{And, Bic, Eor, Sel, Orr, Orn, Nor, Nand}
use Rattle.words.specs.declared.Instruction.{Instruction}
use Rattle.words.specs.declared.Instruction.TheVariants.{While, Saturating, IncDec, Cntp, CntpCounter, Pnext, Pfirst, Ptest, Pfalse, Logic, Setffr, Wrffr, Rdffr, RdffrPg, RdffrsPg}

-- a bit as a Bool, and size 00 to 11
abbrev pub flag : ℕ → Bool
flag n = eqb n 1

abbrev pub size_of : ℕ → Size
size_of zero = Sz.B
size_of (suc zero) = Sz.H
size_of (suc (suc zero)) = Sz.S
size_of (suc (suc (suc n))) = Sz.D

-- conditions by (lt, eq): 10 less, 11 less or equal, 00 greater or equal, 01 greater
abbrev pub condition_of : Bool → Bool → Condition
condition_of true false = Less
condition_of true true = LessEqual
condition_of false false = GreaterEqual
condition_of false true = Greater

abbrev pub eq_bit : Condition → Bool
eq_bit Less = false
eq_bit LessEqual = true
eq_bit GreaterEqual = false
eq_bit Greater = true

-- operations by op o2 o3, from 000 to 111, and these three bits as one number
abbrev pub operations : List Operation
operations = And ∷ Bic ∷ Eor ∷ Sel ∷ Orr ∷ Orn ∷ Nor ∷ Nand ∷ []

abbrev pub operation_bits : ℕ → ℕ → ℕ → ℕ
operation_bits op o2 o3 = op * 4 + o2 * 2 + o3

abbrev pub operation_of : ℕ → Operation
operation_of n = get_or operations n Nand

abbrev pub operation_number : Operation → ℕ
operation_number And = 0b000
operation_number Bic = 0b001
operation_number Eor = 0b010
operation_number Sel = 0b011
operation_number Orr = 0b100
operation_number Orn = 0b101
operation_number Nor = 0b110
operation_number Nand = 0b111

-- a form: what its bits are; by its fields, the level that it asks, whether it has a word with them, and the instruction that they build
pub record Form : Type 0 where
  pub layout : List Piece
  pub level : FromFields ℕ
  pub allowed : FromFields Bool
  pub build : FromFields Instruction

abbrev pub while_one_form : Form
while_one_form = record {
  layout = opcode ∷ size ∷ fixed 1 0b1 ∷ Rm 5 ∷ fixed 3 0b000 ∷ sf ∷ U ∷ lt ∷ Rn 5 ∷ eq ∷ Pd 4 ∷ [];
  level = given 8 (λ size rm sf u lt rn eq pd. pick (flag lt) 1 2);
  allowed = always true;
  build = given 8 (λ size rm sf u lt rn eq pd. While (condition_of (flag lt) (flag eq)) (flag u) (One (flag sf) pd) (size_of size) rn rm);
}

abbrev pub while_pair_form : Form
while_pair_form = record {
  layout = opcode ∷ size ∷ fixed 1 0b1 ∷ Rm 5 ∷ fixed 4 0b0101 ∷ U ∷ lt ∷ Rn 5 ∷ fixed 1 0b1 ∷ Pd 3 ∷ eq ∷ [];
  level = always 3;
  allowed = always true;
  build = given 7 (λ size rm u lt rn pd eq. While (condition_of (flag lt) (flag eq)) (flag u) (Pair pd) (size_of size) rn rm);
}

abbrev pub while_counter_form : Form
while_counter_form = record {
  layout = opcode ∷ size ∷ fixed 1 0b1 ∷ Rm 5 ∷ fixed 2 0b01 ∷ vl ∷ fixed 1 0b0 ∷ U ∷ lt ∷ Rn 5 ∷ fixed 1 0b1 ∷ eq ∷ PNd 3 ∷ [];
  level = always 3;
  allowed = always true;
  build = given 8 (λ size rm vl u lt rn eq pnd. While (condition_of (flag lt) (flag eq)) (flag u) (Counter (flag vl) pnd) (size_of size) rn rm);
}

abbrev pub saturating_form : Form
saturating_form = record {
  layout = opcode ∷ size ∷ fixed 4 0b1010 ∷ D ∷ U ∷ fixed 5 0b10001 ∷ sf ∷ fixed 1 0b0 ∷ Pm 4 ∷ Rdn 5 ∷ [];
  level = always 1;
  allowed = always true;
  build = given 6 (λ size d u sf pm rdn. Saturating (flag d) (flag u) (flag sf) (size_of size) pm rdn);
}

abbrev pub inc_dec_form : Form
inc_dec_form = record {
  layout = opcode ∷ size ∷ fixed 5 0b10110 ∷ D ∷ fixed 5 0b10001 ∷ fixed 2 0b00 ∷ Pm 4 ∷ Rdn 5 ∷ [];
  level = always 1;
  allowed = always true;
  build = given 4 (λ size d pm rdn. IncDec (flag d) (size_of size) pm rdn);
}

abbrev pub cntp_form : Form
cntp_form = record {
  layout = opcode ∷ size ∷ fixed 8 0b10000010 ∷ Pg 4 ∷ fixed 1 0b0 ∷ Pn 4 ∷ Rd 5 ∷ [];
  level = always 1;
  allowed = always true;
  build = given 4 (λ size pg pn rd. Cntp (size_of size) pg pn rd);
}

abbrev pub cntp_counter_form : Form
cntp_counter_form = record {
  layout = opcode ∷ size ∷ fixed 11 0b10000010000 ∷ vl ∷ fixed 1 0b1 ∷ PNn 4 ∷ Rd 5 ∷ [];
  level = always 3;
  allowed = always true;
  build = given 4 (λ size vl pnn rd. CntpCounter (flag vl) (size_of size) pnn rd);
}

abbrev pub pnext_form : Form
pnext_form = record {
  layout = opcode ∷ size ∷ fixed 13 0b0110011100010 ∷ Pv 4 ∷ fixed 1 0b0 ∷ Pdn 4 ∷ [];
  level = always 1;
  allowed = always true;
  build = given 3 (λ size pv pdn. Pnext (size_of size) pv pdn);
}

-- fixed words plus fields
abbrev pub pfirst_form : Form
pfirst_form = record {
  layout = upper 9 0x2558C000 ∷ Pg 4 ∷ fixed 1 0b0 ∷ Pdn 4 ∷ [];
  level = always 1;
  allowed = always true;
  build = given 2 (λ pg pdn. Pfirst pg pdn);
}

abbrev pub ptest_form : Form
ptest_form = record {
  layout = upper 14 0x2550C000 ∷ Pg 4 ∷ fixed 1 0b0 ∷ Pn 4 ∷ fixed 5 0b00000 ∷ [];
  level = always 1;
  allowed = always true;
  build = given 2 (λ pg pn. Ptest pg pn);
}

abbrev pub pfalse_form : Form
pfalse_form = record {
  layout = upper 4 0x2518E400 ∷ Pd 4 ∷ [];
  level = always 1;
  allowed = always true;
  build = given 1 (λ pd. Pfalse pd);
}

-- SEL with S = 1 is left out
abbrev pub logic_has_word : ℕ → Bool → Bool
logic_has_word bits s = not (eqb bits 0b011 && s)

abbrev pub logic_form : Form
logic_form = record {
  layout = opcode ∷ op ∷ S ∷ fixed 2 0b00 ∷ Pm 4 ∷ fixed 2 0b01 ∷ Pg 4 ∷ o2 ∷ Pn 4 ∷ o3 ∷ Pd 4 ∷ [];
  level = always 1;
  allowed = given 8 (λ op s pm pg o2 pn o3 pd. logic_has_word (operation_bits op o2 o3) (flag s));
  build = given 8 (λ op s pm pg o2 pn o3 pd. Logic (operation_of (operation_bits op o2 o3)) (flag s) pm pg pn pd);
}

-- the forms on FFR, fixed words plus fields
abbrev pub setffr_form : Form
setffr_form = record {
  layout = upper 0 0x252C9000 ∷ [];
  level = always 1;
  allowed = always true;
  build = always Setffr;
}

abbrev pub wrffr_form : Form
wrffr_form = record {
  layout = upper 9 0x25289000 ∷ Pn 4 ∷ fixed 5 0b00000 ∷ [];
  level = always 1;
  allowed = always true;
  build = given 1 (λ pn. Wrffr pn);
}

abbrev pub rdffr_form : Form
rdffr_form = record {
  layout = upper 4 0x2519F000 ∷ Pd 4 ∷ [];
  level = always 1;
  allowed = always true;
  build = given 1 (λ pd. Rdffr pd);
}

abbrev pub rdffr_pg_form : Form
rdffr_pg_form = record {
  layout = upper 9 0x2518F000 ∷ Pg 4 ∷ fixed 1 0b0 ∷ Pd 4 ∷ [];
  level = always 1;
  allowed = always true;
  build = given 2 (λ pg pd. RdffrPg pg pd);
}

abbrev pub rdffrs_pg_form : Form
rdffrs_pg_form = record {
  layout = upper 9 0x2558F000 ∷ Pg 4 ∷ fixed 1 0b0 ∷ Pd 4 ∷ [];
  level = always 1;
  allowed = always true;
  build = given 2 (λ pg pd. RdffrsPg pg pd);
}

-- the table; a form's number is its place
abbrev pub forms : List Form
forms = while_one_form ∷ while_pair_form ∷ while_counter_form ∷ saturating_form ∷ inc_dec_form ∷ cntp_form ∷ cntp_counter_form ∷ pnext_form ∷ pfirst_form ∷ ptest_form ∷ pfalse_form ∷ logic_form
    ∷ setffr_form ∷ wrffr_form ∷ rdffr_form ∷ rdffr_pg_form ∷ rdffrs_pg_form ∷ []

-- the form of a number below the table's length
abbrev pub form_at : ℕ → Form
form_at n = get_or forms n pfalse_form

-- an instruction's numbers: its form's, and its fields' in the order of the row
abbrev pub while_numbers : Condition → Bool → Target → Size → ℕ → ℕ → List ℕ
while_numbers c u (One sf pd) size rn rm = 0 ∷ shift size ∷ rm ∷ digit sf ∷ digit u ∷ digit (upward c) ∷ rn ∷ digit (eq_bit c) ∷ pd ∷ []
while_numbers c u (Pair pd) size rn rm = 1 ∷ shift size ∷ rm ∷ digit u ∷ digit (upward c) ∷ rn ∷ pd ∷ digit (eq_bit c) ∷ []
while_numbers c u (Counter vl pnd) size rn rm = 2 ∷ shift size ∷ rm ∷ digit vl ∷ digit u ∷ digit (upward c) ∷ rn ∷ digit (eq_bit c) ∷ pnd ∷ []

abbrev pub numbers_of : Instruction → List ℕ
numbers_of (While c u t size rn rm) = while_numbers c u t size rn rm
numbers_of (Saturating d u sf size pm rdn) = 3 ∷ shift size ∷ digit d ∷ digit u ∷ digit sf ∷ pm ∷ rdn ∷ []
numbers_of (IncDec d size pm rdn) = 4 ∷ shift size ∷ digit d ∷ pm ∷ rdn ∷ []
numbers_of (Cntp size pg pn rd) = 5 ∷ shift size ∷ pg ∷ pn ∷ rd ∷ []
numbers_of (CntpCounter vl size pnn rd) = 6 ∷ shift size ∷ digit vl ∷ pnn ∷ rd ∷ []
numbers_of (Pnext size pv pdn) = 7 ∷ shift size ∷ pv ∷ pdn ∷ []
numbers_of (Pfirst pg pdn) = 8 ∷ pg ∷ pdn ∷ []
numbers_of (Ptest pg pn) = 9 ∷ pg ∷ pn ∷ []
numbers_of (Pfalse pd) = 10 ∷ pd ∷ []
numbers_of (Logic o s pm pg pn pd) =
    let n = operation_number o in
    11 ∷ n / 4 % 2 ∷ digit s ∷ pm ∷ pg ∷ n / 2 % 2 ∷ pn ∷ n % 2 ∷ pd ∷ []
numbers_of Setffr = 12 ∷ []
numbers_of (Wrffr pn) = 13 ∷ pn ∷ []
numbers_of (Rdffr pd) = 14 ∷ pd ∷ []
numbers_of (RdffrPg pg pd) = 15 ∷ pg ∷ pd ∷ []
numbers_of (RdffrsPg pg pd) = 16 ∷ pg ∷ pd ∷ []

abbrev pub form_of : Instruction → Form
form_of i = form_at (get_or (numbers_of i) 0 0)

abbrev pub fields_of : Instruction → List ℕ
fields_of i = drop 1 (numbers_of i)

-- w is a word of the form, and the instruction that it is then
abbrev pub reads : Form → ℕ → Bool
reads f w = from f.allowed (cut f.layout w) && matches f.layout w

abbrev pub instruction_in : Form → ℕ → Instruction
instruction_in f w = from f.build (cut f.layout w)

-- bits 31:24 of w are 00100101
abbrev pub has_opcode : ℕ → Bool
has_opcode w = matches (opcode ∷ field 24 ∷ []) w

-- the reply to a word that is of none of the forms: 1 if its bits 31:24 are others, 13 if they are these
abbrev pub refusal : ℕ → Refusal
refusal w = pick (has_opcode w) UnsupportedForm ForeignWord

-- w read by the first of the forms that it is a word of
unfoldable pub read_by : List Form → ℕ → Result Instruction Refusal
read_by [] w = Err (refusal w)
read_by (f ∷ fs) w = pick (reads f w) (Ok (instruction_in f w)) (read_by fs w)

-- what a word is
abbrev pub decode_of : ℕ → Result Instruction Refusal
decode_of w = read_by forms w

-- an instruction's word, and whether its fields are within their ranges
abbrev pub word_of : Instruction → ℕ
word_of i = place (form_of i).layout (fields_of i)

abbrev pub in_range : Instruction → Bool
in_range i = from (form_of i).allowed (fields_of i) && fits (form_of i).layout (fields_of i)

-- how an instruction is written
unfoldable pub encode_of : Instruction → Result ℕ Refusal
encode_of i = pick (in_range i) (Ok (word_of i)) (Err FieldPastRange)

-- the level that an instruction asks
abbrev pub level_of : Instruction → ℕ
level_of i = from (form_of i).level (fields_of i)
