pub mod Plain
pub mod Walk
pub mod Demand
pub mod Given
pub mod Steps
pub mod Lengths
pub mod Budgets
pub mod Resumed
