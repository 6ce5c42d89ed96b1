-- Laws of folding that other crates may use.
pub mod Units
pub mod Folding
pub mod Start
pub mod Titles
pub mod Answers
pub mod Examples
