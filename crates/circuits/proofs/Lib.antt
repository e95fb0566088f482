pub mod Ways
pub mod Writing
pub mod Tracing
pub mod Circuits
