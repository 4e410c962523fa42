-- The laws behind the offender of one window of a datatype rule.
pub mod Grouping
pub mod Windowed
pub mod Reached
pub mod Skipping
pub mod Stacking
pub mod Raising
pub mod Levelling
pub mod Placing
pub mod Settling
pub mod Calming
