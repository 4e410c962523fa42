-- The definitions that the contracts cite.
pub mod Crowds
pub mod Tallies
pub mod Levels
