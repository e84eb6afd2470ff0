pub mod Slots
pub mod Columns
pub mod Changes
