-- Laws of the replies. Callers' proofs cite them.
pub mod Replies
