-- What stands between the definitions and the code: how the code keeps a queue.
pub mod Cells
pub mod Message
