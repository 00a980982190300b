pub mod Entries
pub mod Quiet
pub mod Observers
pub mod Views
pub mod Calls
pub mod Laws
