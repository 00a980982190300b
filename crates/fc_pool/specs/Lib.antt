pub mod Counting
pub mod Pooled
