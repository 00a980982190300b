pub mod Fronts
pub mod Places
pub mod Stepping
pub mod Others
pub mod ShardEvents
pub mod Beginning
pub mod Served
pub mod Quiet
mod GivenTurns
pub mod FlushingSteps
pub mod Counted
