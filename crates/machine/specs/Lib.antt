pub mod Execute
pub mod Step
pub mod Given
pub mod Frame
