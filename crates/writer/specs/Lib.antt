pub mod Answers
pub mod Steps
