-- laws of the definitions
pub mod Numbers
pub mod Following
pub mod Groups
pub mod Places
pub mod Windows
pub mod Sheets
pub mod Parts
pub mod Runs
pub mod Faults
-- laws of lists and counts, for the steps of the crates above
pub mod Counting
pub mod Sets
-- theorems over the definitions
pub mod Orders
pub mod Back
pub mod Admitted
pub mod There
pub mod Surplus
pub mod Longest
pub mod Front
pub mod Before
pub mod Samples
