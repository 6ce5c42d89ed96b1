-- Laws of the lines. Callers' proofs cite them.
pub mod Digits
pub mod Places
pub mod Example
