pub mod Counting
pub mod Storing
pub mod Whole
pub mod Answering
pub mod Once
pub mod Numbers
