pub mod Storing
pub mod Running
pub mod Once
