-- laws of the writer's steps
pub mod Runs
pub mod Rows
pub mod Outcomes
-- what a caller has
pub mod Trips
