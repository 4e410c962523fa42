-- The laws behind the picking, and those for who goes along what was picked.
pub mod Passing
pub mod Parts
