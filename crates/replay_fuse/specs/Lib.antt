pub mod Places
pub mod Judged
pub mod Attempts
pub mod Tallies
pub mod Further
pub mod Replay
