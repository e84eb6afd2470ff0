pub mod Bursts
pub mod Pieces
pub mod Words
pub mod Laws
pub mod Examples
