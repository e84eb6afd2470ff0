-- The proofs of demand 3, in folders by what they prove.
pub mod Soundness
pub mod Tags
pub mod Bytes
pub mod FirstFailure
pub mod Deadline
pub mod Okay
pub mod Alike
pub mod Sessions
pub mod Sent
pub mod Methods
pub mod Prefix
pub mod Example
pub mod Applied
pub mod QueueNeeded
pub mod Demand3
