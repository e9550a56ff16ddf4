pub mod Left
pub mod Answer
pub mod Steps
