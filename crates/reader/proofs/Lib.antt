-- laws of the reader's steps
pub mod Schedules
pub mod Filling
pub mod Outcomes
-- what a caller has
pub mod Trips
pub mod Leaves
pub mod Lending
