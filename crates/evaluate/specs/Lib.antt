pub mod Evaluation
pub mod Steps
pub mod Explained
