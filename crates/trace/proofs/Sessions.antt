-- Session numbers: what the counter counts, and what a kept answer keeps of it.
pub mod Counting
pub mod Kept
pub mod Lives
pub mod Figures
pub mod Examples
pub mod Differ
