-- Which registers a kernel owns, and which it may name.
use Rattle.std.specs.Prelude.{ℕ, Bool, ◌&&◌, ◌||◌, leb, ltb}
use Rattle.registers.specs.State.{ffr}
use Rattle.instructions.specs.declared.operands.Registers.{Registers}
use Rattle.shared.specs.declared.Kernel.{Kernel}
use Rattle.shared.specs.declared.Kernel.TheVariants.{First, Second}

-- the first kernel owns X0 to X15, the second X16 to X30
abbrev pub owns_x : Kernel → ℕ → Bool
owns_x First r = ltb r 16
owns_x Second r = leb 16 r && ltb r 31

-- the first owns P0 to P7, the second P8 to P15; FFR is neither's
abbrev pub owns_p : Kernel → ℕ → Bool
owns_p First r = ltb r 8
owns_p Second r = leb 8 r && ltb r ffr

-- its own, or 31, which is open to both, as is no register
unfoldable pub may_name_x : Kernel → ℕ → Bool
may_name_x who r = leb 31 r || owns_x who r

-- its own, or no register
unfoldable pub may_name_p : Kernel → ℕ → Bool
may_name_p who r = ltb ffr r || owns_p who r

-- all that an instruction names: sources, masks and targets
unfoldable pub may_name : Kernel → Registers → Bool
may_name who r =
    may_name_x who r.rn && (may_name_x who r.rm && (may_name_x who r.rd
    && (may_name_p who r.pg && (may_name_p who r.pn && (may_name_p who r.pm && (may_name_p who r.pd && may_name_p who r.pd2))))))

-- the four registers of a walk
unfoldable pub may_walk : Kernel → ℕ → ℕ → ℕ → ℕ → Bool
may_walk who n m d k = may_name_x who n && (may_name_x who m && (may_name_p who d && may_name_p who k))
