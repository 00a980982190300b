pub mod Telling
pub mod Endings
pub mod OwnRuns
pub mod Registering
pub mod JobTickets
