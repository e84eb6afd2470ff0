-- What stands between the definitions and the code: the registers that a struct of the code means, and the routes.
pub mod Struct
pub mod Routed
