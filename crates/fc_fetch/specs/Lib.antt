pub mod Connecting
pub mod Printing
pub mod Fetching
pub mod Asking
pub mod Pinging
pub mod Rendering
pub mod Observing
pub mod Operations
