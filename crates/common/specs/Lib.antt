pub mod Tests
pub mod Decode
