pub mod Shifts
pub mod Compose
pub mod Answers
