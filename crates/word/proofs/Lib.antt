pub mod Bits
pub mod Moves
pub mod Probes
mod Turns
