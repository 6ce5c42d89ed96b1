-- Laws of the shared state. Callers' proofs cite them.
pub mod Naming
pub mod Same
pub mod Acting
pub mod Ways
pub mod Answers
pub mod Actions
pub mod Isolation
pub mod Commuting
pub mod Replies
pub mod Walks
pub mod Budgets
pub mod Examples
