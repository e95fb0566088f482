pub mod Reading
pub mod Answers
