mod Draws
mod Authorizing
pub mod Words
