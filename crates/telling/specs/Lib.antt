pub mod Tells
pub mod Steps
