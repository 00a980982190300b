pub mod Logs
pub mod Messages
pub mod Statistics
pub mod Called
pub mod Answers
pub mod Filed
pub mod RightTracks
