-- The checker's C calls: what was read of the file decides, and two answers are equal.
pub mod Reading
pub mod Unique
