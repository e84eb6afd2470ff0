-- An access is answered OKAY if its good completions came in time.
pub mod Asks
pub mod Good
pub mod Due
pub mod Okay
