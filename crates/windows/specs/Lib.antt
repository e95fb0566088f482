pub mod Windows
pub mod Inequalities
pub mod Arcs
pub mod Circuits
