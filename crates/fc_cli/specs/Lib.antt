pub mod Arguments
pub mod Ending
pub mod Stops
