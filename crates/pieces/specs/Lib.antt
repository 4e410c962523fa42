-- The definitions that the contracts cite.
pub mod Lone
pub mod Steps
pub mod Merged
