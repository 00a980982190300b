pub mod Notices
pub mod Notes
pub mod ObserverCalls
pub mod ObserverFaults
pub mod Representations
pub mod Completions
