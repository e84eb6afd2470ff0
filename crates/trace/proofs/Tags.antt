-- Which request a completion answers: labels, and the requests that tags are open for.
pub mod Turn
pub mod Wire
pub mod Tagged
pub mod Asks
pub mod Comes
pub mod Opened
pub mod Wired
