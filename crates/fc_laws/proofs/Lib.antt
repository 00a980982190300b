pub mod turns
pub mod front
pub mod jobs
pub mod slots
pub mod words
pub mod starts
