-- Proposed arcs: their refusals, the steps that a list is the numbers of, the tests by index, what each answer says, that two outcomes are equal, and our own circuit.
pub mod Refusals
pub mod Steps
pub mod Tests
pub mod Cases
pub mod Unique
pub mod Never
pub mod Own
