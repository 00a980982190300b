mod Events
pub mod Limits
