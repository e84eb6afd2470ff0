pub mod Sending
pub mod Failing
pub mod Staying
