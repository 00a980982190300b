pub mod Deciding
pub mod Diagnosing
pub mod Digesting
