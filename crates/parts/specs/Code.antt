-- What stands between the definitions and the code. 01 has no words for it: the core, the columns and the answer that a struct of
-- the code means, through which contracts speak.
pub mod Struct
