pub mod Groups
pub mod Refusals
pub mod Signs
pub mod Bounds
