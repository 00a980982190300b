pub mod Ran
pub mod Steps
pub mod Array
pub mod Kept
pub mod Outcome
pub mod PairRuns
