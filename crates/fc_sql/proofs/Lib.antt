pub mod Rows
pub mod Put
pub mod Mirror
pub mod Read
pub mod Found
