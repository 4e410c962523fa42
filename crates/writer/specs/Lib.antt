-- The definitions that the contracts cite.
pub mod Filling
pub mod Promise
