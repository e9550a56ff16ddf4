pub mod Uses
pub mod Tables
pub mod Walked
pub mod Orders
