pub mod Texts
pub mod Lines
pub mod Timing
pub mod Failures
pub mod Asked
pub mod States
pub mod NextNotes
