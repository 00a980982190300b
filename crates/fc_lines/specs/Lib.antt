pub mod Fields
pub mod Lines
pub mod Emissions
pub mod Policies
