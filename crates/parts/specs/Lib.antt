-- The definitions that the contracts cite.
pub mod Ground
pub mod Keyed
pub mod Parts
pub mod Matched
