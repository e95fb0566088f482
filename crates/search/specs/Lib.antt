pub mod Copies
pub mod Climbs
pub mod Searches
