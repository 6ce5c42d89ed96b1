pub mod Predicate
pub mod PredTest
pub mod Words
