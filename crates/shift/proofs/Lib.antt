pub mod Variants
pub mod Linear
pub mod Composes
pub mod Numbers
