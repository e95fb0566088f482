pub mod Posing
pub mod Accepting
pub mod Deciding
