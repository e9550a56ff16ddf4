pub mod Decimals
pub mod Putting
pub mod Once
