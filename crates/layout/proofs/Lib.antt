pub mod Laying
pub mod Counting
pub mod Windows
