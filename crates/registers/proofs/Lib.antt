-- Laws of the register state. Callers' proofs cite them.
pub mod Registers
pub mod Legality
pub mod PartLaws
