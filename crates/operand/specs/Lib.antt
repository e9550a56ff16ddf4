pub mod Push
pub mod Terms
pub mod Examples
pub mod Numbers
