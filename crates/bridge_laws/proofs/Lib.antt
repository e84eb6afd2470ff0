-- The rows of the state.
pub mod Changes
pub mod Rows
pub mod Parts
pub mod Cores
-- The effect of each step.
pub mod Verbs
pub mod Steps
pub mod Serving
pub mod Dropping
pub mod Stores
pub mod Effects
pub mod Turns
pub mod EachRow
pub mod ReadTurns
pub mod BothTurns
-- A fresh bridge, configuration accesses, taking an answer.
pub mod FreshLaws
pub mod ConfigLaws
pub mod RouteLaws
pub mod TakeLaws
-- Memory reads and writes.
pub mod Behind
pub mod Pieces
pub mod Kept
pub mod Sends
pub mod Stored
pub mod Asked
pub mod PieceLaws
pub mod MemoryExamples
-- Completions, ticks, the link, messages.
pub mod Coming
pub mod Keeping
pub mod Finished
pub mod Goodness
pub mod Counting
pub mod TickLaws
pub mod Resting
pub mod MessageLaws
pub mod SessionLaws
pub mod CompletionExamples
pub mod Examples
