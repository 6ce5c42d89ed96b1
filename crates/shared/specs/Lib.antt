pub mod Ownership
pub mod Shared
pub mod Given
pub mod GivenWalk
pub mod Budgets
pub mod Schedule
pub mod Inside
pub mod Isolation
