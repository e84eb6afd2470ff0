pub mod Quiet
pub mod Taking
pub mod Completing
