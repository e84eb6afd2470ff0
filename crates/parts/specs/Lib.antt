pub mod Sizes
pub mod Cores
pub mod Pendings
pub mod Answers
pub mod Access
pub mod Numbers
-- what stands between the definitions and the code
pub mod Code
