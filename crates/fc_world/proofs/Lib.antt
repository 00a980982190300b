pub mod Moving
pub mod Running
