pub mod Ranges
pub mod Walking
pub mod Taking
pub mod Records
pub mod Clearing
pub mod Lent
pub mod Modes
