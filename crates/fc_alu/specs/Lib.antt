pub mod Words
pub mod Arithmetic
pub mod Instructions
pub mod Comparison
pub mod Relations
