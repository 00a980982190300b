pub mod Tickets
pub mod Taken
pub mod Receipts
pub mod Runs
pub mod Registrations
pub mod Notes
pub mod Laws
