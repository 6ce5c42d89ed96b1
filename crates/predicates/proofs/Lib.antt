-- Laws of predicates. Callers' proofs cite them.
pub mod Words
pub mod WordSearch
pub mod ElementBits
pub mod Flagging
pub mod Live
pub mod Spans
pub mod Lengths
pub mod Monotonic
