-- The laws behind the passes over crowds and levels.
pub mod Counts
pub mod Ends
pub mod Crowding
pub mod Turns
pub mod Leveling
