pub mod Filling
pub mod Steps
