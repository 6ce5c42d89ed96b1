-- Laws of bytes. Callers' proofs cite them.
pub mod Bytes
