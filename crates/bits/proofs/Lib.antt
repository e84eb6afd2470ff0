pub mod Flags
pub mod Bits
pub mod Words
pub mod Steps
