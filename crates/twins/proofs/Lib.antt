-- The laws behind the passes over items of one number.
pub mod Classing
pub mod Sweeping
pub mod Clearing
