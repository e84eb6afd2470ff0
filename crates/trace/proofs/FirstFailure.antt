-- A read's response is that of its first failed piece.
pub mod Tracks
pub mod Effects
pub mod Tick
pub mod Reads
pub mod FirstFailure
