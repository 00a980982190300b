pub mod Held
pub mod Programs
pub mod Configs
pub mod Servers
