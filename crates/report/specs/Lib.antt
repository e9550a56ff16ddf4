pub mod Outcome
pub mod Steps
pub mod Report
pub mod File
