-- C1
pub mod Cuts
-- up to one event
pub mod Next
-- C3 and C4
pub mod Play
pub mod Told
-- C2
pub mod Sizes
pub mod File
-- a file's verdict
pub mod Verdicts
-- a whole file, in any calls
pub mod Calls
pub mod Example
-- events of a capture as events of `trace`
pub mod Areas
pub mod Runs
-- demands 2 and 3, of a file's events
pub mod FileDemand2
pub mod FileDemand3
