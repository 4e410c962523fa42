-- The definitions that the contracts cite.
pub mod Taken
pub mod Within
