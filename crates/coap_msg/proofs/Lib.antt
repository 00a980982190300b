pub mod Steps
pub mod Spelling
pub mod Walk
pub mod Whole
pub mod Written
pub mod Sizes
