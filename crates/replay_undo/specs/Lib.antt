pub mod Places
pub mod Tallies
pub mod Words
pub mod Values
pub mod Patched
pub mod Undone
pub mod Attempts
pub mod Replay
