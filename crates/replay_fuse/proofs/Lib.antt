pub mod Turns
pub mod Slots
