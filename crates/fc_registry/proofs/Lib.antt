pub mod Writes
pub mod Installs
pub mod Rings
pub mod Places
pub mod Outcomes
pub mod Noticed
pub mod Ahead
pub mod Tickets
mod Quiet
pub mod Watched
pub mod Asked
pub mod Plans
pub mod Counted
pub mod Restoring
