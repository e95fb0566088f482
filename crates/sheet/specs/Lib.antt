pub mod File
pub mod Written
