-- Modules that belong to no one function.
pub mod Laws
pub mod Crowds
pub mod Parts
pub mod Unloaded
pub mod Wholes
pub mod Readings
pub mod Writings
pub mod Agree
pub mod Once
pub mod Alls
