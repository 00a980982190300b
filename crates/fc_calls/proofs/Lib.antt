pub mod Snapshots
mod Confirming
mod Planned
