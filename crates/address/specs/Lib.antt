pub mod Windows
pub mod Settings
pub mod Laws
pub mod Examples
-- what stands between the definitions and the code
pub mod Code
