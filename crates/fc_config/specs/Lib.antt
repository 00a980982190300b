pub mod Options
pub mod Policies
pub mod Every
pub mod Logs
