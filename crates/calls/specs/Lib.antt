pub mod Circuits
pub mod Ask
pub mod Ends
pub mod Host
pub mod Surplus
pub mod ProposedTimes
pub mod ProposedArcs
pub mod Checker
