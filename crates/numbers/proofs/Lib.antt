pub mod Tests
pub mod Reading
pub mod Signs
pub mod Writing
pub mod Ways
pub mod Reasons
