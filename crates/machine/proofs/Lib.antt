-- Laws that the contracts and the laws above share.
pub mod Configs
pub mod Reading
pub mod Refusals
pub mod Judging
pub mod Tables
pub mod Ticks
