mod Fronts
mod Merged
mod OneOrder
mod TwoDraws
mod TwoLooks
mod TwoInstalls
mod CostReads
pub mod LegalOrder
mod EightShards
mod EightTallies
mod AskedAt
pub mod Saving
mod SavedSlots
mod NewTables
