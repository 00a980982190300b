pub mod Kept
pub mod Written
pub mod Restated
pub mod CostTable
pub mod HeadTable
pub mod FunctionTables
pub mod ShapeLaws
pub mod PathLaws
pub mod Costs
pub mod Attained
pub mod FrameLaws
mod Rows
pub mod LoopForm
pub mod Leaving
pub mod Spanned
pub mod LoopLaws
