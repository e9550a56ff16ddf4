pub mod Ors
pub mod Pulls
pub mod Living
