pub mod Weighing
pub mod Held
