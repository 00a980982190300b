mod Clocks
pub mod Sensing
