pub mod Ingresses
pub mod SingleThread
pub mod Starting
pub mod Playing
pub mod Services
pub mod Histories
pub mod Serials
