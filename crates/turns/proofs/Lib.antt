pub mod Differing
pub mod Folds
pub mod Places
pub mod Tables
pub mod Walking
pub mod Sheets
