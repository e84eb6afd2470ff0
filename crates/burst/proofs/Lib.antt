pub mod Covers
pub mod Cut
pub mod Paste
pub mod Tiling
pub mod Pieces
pub mod Words
pub mod Examples
