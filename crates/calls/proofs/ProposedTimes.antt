-- Proposed times: their refusals, what is kept and what is broken, what each answer says, that two outcomes are equal, and our own plan.
pub mod Refusals
pub mod Kept
pub mod Cases
pub mod Unique
pub mod Own
pub mod Surplus
