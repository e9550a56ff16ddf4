pub mod Closing
pub mod Kept
pub mod Definitions
