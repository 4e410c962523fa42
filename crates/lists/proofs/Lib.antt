-- The laws behind the two lists.
pub mod Marking
pub mod Changing
