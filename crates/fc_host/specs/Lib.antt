pub mod Clocks
pub mod Sockets
pub mod Timers
