pub mod Handling
pub mod Traffic
pub mod Firing
pub mod Reporting
pub mod Rounds
