pub mod Summing
pub mod Storing
pub mod Answering
pub mod Numbers
pub mod Once
