pub mod SharedStores
pub mod Asked
pub mod Closing
pub mod Counts
pub mod Fronts
pub mod Naming
pub mod OneOrder
pub mod LegalOrder
