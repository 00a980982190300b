pub mod MeaningLaws
pub mod ReplyCodes
pub mod IntervalsGrow
pub mod IntervalsProper
pub mod IntervalsRefined
pub mod IntervalsSound
pub mod NumberWords
pub mod KindLaws
pub mod JoinLaws
pub mod Monotone
pub mod TransferLaws
pub mod RefinementLaws
pub mod WayLaws
pub mod OperationLaws
pub mod TakenLaws
pub mod StepLaws
pub mod CallLaws
pub mod Levels
mod Rows
mod Meanings
