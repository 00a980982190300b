mod Pools
pub mod OneDispatcher
mod Seats
mod Recorded
