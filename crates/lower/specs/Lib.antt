pub mod Lists
pub mod Model
pub mod Values
pub mod Accepted
pub mod Stores
pub mod Faults
pub mod Tables
pub mod Explained
