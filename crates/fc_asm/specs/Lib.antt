pub mod Names
pub mod Listing
pub mod Shown
pub mod Mistakes
pub mod Operands
pub mod Syntax
pub mod Assembled
