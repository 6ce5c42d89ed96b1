-- Laws of the answers for C.
pub mod Parts
pub mod Kernels
