pub mod Sorting
pub mod Theorem
