pub mod Ranges
pub mod Steps
pub mod Counted
pub mod Laws
pub mod Examples
