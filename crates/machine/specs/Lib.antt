-- The bridge that 01 defines: its state, then a file for each kind of event.
pub mod Bridge
pub mod State
pub mod Stores
pub mod Refusals
pub mod Memory
pub mod Routed
pub mod Config
pub mod Verdict
pub mod Completions
pub mod Ticks
pub mod Take
pub mod Messages
-- what stands between the definitions and the code
pub mod Code
