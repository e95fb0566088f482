-- The C call: that Ask gives its answer, and that two verdicts are equal.
pub mod Asking
pub mod Unique
