pub mod Tracks
pub mod Calls
pub mod Counters
