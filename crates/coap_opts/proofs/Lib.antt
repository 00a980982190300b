pub mod Numbers
pub mod Known
pub mod Order
pub mod Checked
pub mod Recognised
pub mod Paths
pub mod Spellings
pub mod Within
pub mod Rows
mod Left
mod Kept
pub mod Following
