-- Logic on predicates, bit by bit.
use Rattle.std.specs.Prelude.{ℕ, Bool, not, ◌&&◌, ◌||◌}
use Rattle.std.specs.Bool.{xor}
use Rattle.bits.specs.declared.Size.TheVariants as Sz
use Rattle.bits.specs.Choice.{pick}
use Rattle.predicates.specs.declared.Predicate.{Predicate}
use Rattle.predicates.specs.Predicate.{bit_at, pack, active, elements}
use Rattle.predicates.specs.PredTest.{pred_test}
use Rattle.words.specs.declared.Operation.{Operation}
use Rattle.words.specs.declared.Operation.TheVariants.{And, Bic, Eor, Sel, Orr, Orn, Nor, Nand}
use Rattle.instructions.specs.Effect.{Effect, gives_p, gives_pf}

-- an operation on a bit of Pn and a bit of Pm, where the bit g of Pg is true; where it is false the result is false
abbrev pub masked : (Bool → Bool → Bool) → Bool → Bool → Bool → Bool
masked f g n m = g && f n m

-- BIC and ORN invert Pm; SEL takes Pn where Pg is true, and Pm elsewhere
abbrev pub logic_bit : Operation → Bool → Bool → Bool → Bool
logic_bit And = masked (λ n m. n && m)
logic_bit Bic = masked (λ n m. n && not m)
logic_bit Eor = masked (λ n m. xor n m)
logic_bit Sel = λ g n m. pick g n m
logic_bit Orr = masked (λ n m. n || m)
logic_bit Orn = masked (λ n m. n || not m)
logic_bit Nor = masked (λ n m. not (n || m))
logic_bit Nand = masked (λ n m. not (n && m))

unfoldable pub logic_result : Operation → Predicate → Predicate → Predicate → Predicate
logic_result o pg pn pm = pack (λ b. logic_bit o (bit_at pg b) (bit_at pn b) (bit_at pm b))

-- with S the flags are those of the result under Pg, over bytes
unfoldable pub logic_of : Operation → Bool → Predicate → Predicate → Predicate → ℕ → Effect
logic_of o s pg pn pm vl =
    let result = logic_result o pg pn pm in
    pick s (gives_pf result (pred_test (active 0 pg) (active 0 result) (elements vl Sz.B))) (gives_p result)
