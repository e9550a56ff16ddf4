-- Modules that belong to no one function.
pub mod Once
pub mod Zero
pub mod Recorded
