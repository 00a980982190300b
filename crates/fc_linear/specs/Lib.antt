pub mod Operations
pub mod Parts
