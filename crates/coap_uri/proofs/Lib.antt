pub mod Segments
pub mod Addressing
