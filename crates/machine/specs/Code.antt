-- What stands between the definitions and the code. 01 has no words for it: the bridge that the code's tables mean, through
-- which contracts speak, and what the steps of a call pass on to each other.
pub mod Tables
pub mod Expected
pub mod Passing
