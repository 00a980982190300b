pub mod Addresses
pub mod Resources
