-- Ends: its refusals, that there are ends or none, what each answer says, and that two outcomes are equal.
pub mod Refusals
pub mod Found
pub mod Cases
pub mod Unique
