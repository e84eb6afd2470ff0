pub mod Queue
pub mod Layout
pub mod Laws
pub mod Code
