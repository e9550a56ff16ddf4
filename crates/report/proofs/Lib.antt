pub mod Coming
pub mod Filing
pub mod Once
pub mod Theorem
pub mod Example
pub mod Long
pub mod Standing
pub mod Displayed
