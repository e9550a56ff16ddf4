pub mod Pushes
pub mod Shown
pub mod Stored
