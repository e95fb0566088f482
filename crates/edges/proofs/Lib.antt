pub mod Places
pub mod Naming
pub mod Edges
pub mod Sites
