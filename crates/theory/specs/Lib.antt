pub mod Arcs
pub mod Circuits
pub mod Ends
pub mod Found
pub mod Parents
pub mod Backs
