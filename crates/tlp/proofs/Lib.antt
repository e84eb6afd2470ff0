pub mod Laws
pub mod Digits
pub mod RequestTrip
pub mod CompletionTrip
pub mod Codec
pub mod Ranges
pub mod Refused
pub mod Short
