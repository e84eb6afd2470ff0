-- Request A5, what holds of captures and of replay: theorems only, proved in proofs/.
pub mod File
pub mod Stream
pub mod Play
pub mod Runs
pub mod FileDemand2
pub mod ClaimsAt
pub mod FileDemand3
