pub mod Transmitting
pub mod Failing
pub mod Courses
pub mod Stopping
pub mod NextParts
pub mod Sizes
pub mod Splitting
pub mod SentBodies
pub mod JoinedAnswers
mod TakenBlocks
pub mod Scheduled
pub mod Resets
pub mod Pinging
