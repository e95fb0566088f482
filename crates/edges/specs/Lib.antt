pub mod Edges
pub mod Naming
