pub mod Exchanges
pub mod Calls
pub mod Keys
pub mod Looks
pub mod Requests
pub mod Views
