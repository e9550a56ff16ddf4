pub mod Theorem
pub mod Samples
pub mod Adding
