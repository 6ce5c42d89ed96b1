-- Laws of images. Callers' proofs cite them.
pub mod PredicateBytes
pub mod SectionLaws
pub mod Readings
pub mod Writings
pub mod RoundTrips
pub mod Longest
pub mod Example
