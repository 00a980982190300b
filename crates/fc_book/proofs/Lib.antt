pub mod Keys
pub mod Moves
pub mod Kept
pub mod Counted
pub mod TwoCallers
pub mod Owners
pub mod Numbers
