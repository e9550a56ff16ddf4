pub mod Turns
pub mod Alike
pub mod Calls
