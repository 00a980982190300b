pub mod LowHead
pub mod Rules
pub mod HandedOn
pub mod Heads
pub mod Narrow
pub mod PassLaws
pub mod Passing
pub mod Levels
pub mod Table
mod Stopping
mod KeptRegisters
mod Moves
mod Counters
mod OpenLoops
mod StepMoves
mod Waiting
mod Starts
mod FlowSteps
pub mod RunLaws
pub mod Judging
pub mod Right
pub mod Sound
mod Rows
mod HeadRows
pub mod Lowered
mod Pairing
mod EntryTyping
