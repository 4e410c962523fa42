-- The laws behind the representatives.
pub mod Equals
pub mod Keying
pub mod Falling
pub mod Counts
