-- The laws behind the parts of an offence.
pub mod Tallies
pub mod Using
pub mod Supplied
pub mod Earlier
pub mod Resorting
pub mod Matching
pub mod Parting
