-- Each accepted access is answered by the T-th tick.
pub mod Spares
pub mod Calls
pub mod Events
pub mod Deadline
