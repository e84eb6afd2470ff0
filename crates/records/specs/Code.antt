pub mod Kinds
pub mod Meaning
pub mod Steps
pub mod Parts
pub mod Summary
