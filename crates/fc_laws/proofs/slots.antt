pub mod Changing
pub mod Causes
pub mod Writing
pub mod Unsaved
pub mod Published
pub mod Deletions
pub mod Updates
