-- Two bridges that are left alike show the same.
pub mod Twin
pub mod Stores
pub mod Pieces
pub mod Times
pub mod Link
pub mod Completions
pub mod Reads
pub mod Answers
pub mod Steps
pub mod Alike
pub mod Shown
