pub mod Arrival
pub mod Halves
pub mod Index
pub mod Keys
pub mod Padding
pub mod Places
pub mod Shares
