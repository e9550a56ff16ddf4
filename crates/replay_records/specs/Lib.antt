pub mod Places
pub mod Words
pub mod Judged
pub mod Attempts
pub mod Tallies
pub mod Replay
