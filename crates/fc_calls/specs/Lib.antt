pub mod Logged
pub mod Doings
pub mod Kept
