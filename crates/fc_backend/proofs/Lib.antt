pub mod Logs
pub mod Messages
mod KnownWords
mod TwoTimers
pub mod Popped
