-- A read answered OKAY holds the bytes sent for it; finished answers stay.
pub mod Joined
pub mod Put
pub mod Stage
pub mod Receiving
pub mod Passing
pub mod Reading
pub mod Finished
pub mod Bytes
