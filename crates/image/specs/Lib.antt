pub mod Sections
pub mod Image
pub mod Reading
pub mod Writing
pub mod Held
