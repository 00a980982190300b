pub mod Request
pub mod Region
pub mod Layout
pub mod Helpers
