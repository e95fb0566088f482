pub mod Short
pub mod Whole
pub mod Unique
