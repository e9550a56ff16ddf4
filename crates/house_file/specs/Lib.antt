pub mod Format
pub mod Decoding
pub mod Reading
pub mod First
