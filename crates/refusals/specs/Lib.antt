pub mod Refusals
pub mod Responses
pub mod Table
