-- The laws behind what is selected, what is read and when it changes.
pub mod Climbing
pub mod Filling
pub mod Fielding
pub mod Days
