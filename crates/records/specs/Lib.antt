-- Document 02, request A5: the records of a capture, the file that they make, and its reader.
pub mod Layout
pub mod Events
pub mod Writing
pub mod Reading
pub mod File
pub mod Stream
pub mod Laws
pub mod Examples
-- what stands between the definitions and the code
pub mod Code
