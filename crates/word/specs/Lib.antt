pub mod Word
pub mod Answers
