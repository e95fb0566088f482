pub mod Present
pub mod Following
pub mod Tests
pub mod Judging
pub mod Unique
