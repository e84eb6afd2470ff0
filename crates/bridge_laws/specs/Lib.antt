-- What is proved of the bridge's definitions, and the worked examples on them.
pub mod RowLaws
pub mod Rows
pub mod MemoryLaws
pub mod ConfigLaws
pub mod RouteLaws
pub mod MessageLaws
pub mod SessionLaws
pub mod Effects
pub mod CompletionLaws
pub mod TickLaws
pub mod PieceLaws
pub mod ExampleBridges
pub mod MemoryExamples
pub mod CompletionExamples
pub mod Examples
