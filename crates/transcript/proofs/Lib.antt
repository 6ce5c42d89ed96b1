-- Laws of the transcript, and its theorem: in a buffer of 86,026 bytes every image has its whole text. Callers' proofs cite them.
pub mod Puts
pub mod Turns
pub mod Answers
pub mod Texts
pub mod Example
