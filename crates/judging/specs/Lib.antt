-- The definitions that the contracts cite.
pub mod Knowing
pub mod Picking
pub mod Armed
pub mod Stopping
pub mod Tally
