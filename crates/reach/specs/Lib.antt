pub mod Alive
pub mod Reach
pub mod Steps
