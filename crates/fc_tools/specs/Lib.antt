pub mod Tools
pub mod Reads
pub mod Diagnosed
pub mod Numbered
pub mod Runs
pub mod Digests
