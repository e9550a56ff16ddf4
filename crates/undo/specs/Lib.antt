pub mod FillBack
pub mod Demand3
pub mod Steps
