pub mod Stored
pub mod Updates
pub mod Saves
pub mod Recovery
