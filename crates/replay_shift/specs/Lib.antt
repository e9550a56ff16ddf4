pub mod Tallies
pub mod Replay
pub mod Refusals
