-- The definitions that the contracts cite.
pub mod Order
pub mod Halves
pub mod Standing
