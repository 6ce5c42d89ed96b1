-- Laws of bits and searches. Callers' proofs cite them.
pub mod Searches
pub mod Bits
pub mod Counts
pub mod Sizes
