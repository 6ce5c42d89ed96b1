-- Laws of the instructions. Callers' proofs cite them.
pub mod Effects
pub mod WhileLaws
pub mod CounterLaws
pub mod SearchLaws
pub mod LogicLaws
pub mod FfrLaws
pub mod Readings
