-- Laws of WHILE's comparisons and of saturation. Callers' proofs cite them.
pub mod Comparisons
pub mod Clamps
