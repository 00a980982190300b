pub mod Reading
pub mod Networks
