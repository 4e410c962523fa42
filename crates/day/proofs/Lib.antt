-- The laws behind the offender of one day.
pub mod Tallying
pub mod Meeting
pub mod Skipping
pub mod Walking
pub mod Single
pub mod Offence
pub mod Termwise
pub mod Settling
