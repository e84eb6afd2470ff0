-- What holds of every state that a list of events reaches.
pub mod Cases
pub mod View
pub mod Counts
pub mod Fine
pub mod Acting
pub mod Serving
pub mod Cores
pub mod Opening
pub mod Dropping
pub mod Rooms
pub mod Ticking
pub mod Sound
pub mod Registers
