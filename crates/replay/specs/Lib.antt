-- Request A5: a capture played on the bridge.
pub mod Events
pub mod Play
-- what stands between the definitions and the code
pub mod Code
