pub mod Puts
pub mod Spelling
pub mod Values
