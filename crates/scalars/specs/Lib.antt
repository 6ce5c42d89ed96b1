pub mod Value
pub mod While
pub mod Saturate
pub mod Inside
