pub mod Sums
pub mod Sizes
pub mod Total
pub mod Pairs
pub mod Within
pub mod Same
