pub mod Parts
pub mod Listed
pub mod Endless
pub mod Laying
pub mod Steps
pub mod Limits
pub mod Numbers
