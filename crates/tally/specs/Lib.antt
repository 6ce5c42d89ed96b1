pub mod Counts
pub mod Tally
pub mod Planes
