pub mod Reach
pub mod Windows
pub mod Unique
