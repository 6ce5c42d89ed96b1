-- Laws of the machine. Callers' proofs cite them.
pub mod Executing
pub mod Frame
pub mod Kept
pub mod Counters
pub mod Steps
pub mod Replies
pub mod Ffr
pub mod Examples
pub mod Counts
