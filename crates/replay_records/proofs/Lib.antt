-- Modules that belong to no one function.
pub mod Turns
pub mod Calls
