-- Ask: its refusals, the earliest plan, what each answer says, and that two outcomes are equal.
pub mod Refusals
pub mod Room
pub mod Earliest
pub mod Cases
pub mod Moving
pub mod Unique
pub mod Bounds
