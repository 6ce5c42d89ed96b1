pub mod Choice
pub mod Size
pub mod Search
pub mod Bits
