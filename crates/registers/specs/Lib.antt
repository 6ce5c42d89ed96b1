pub mod State
pub mod Legal
pub mod Parts
