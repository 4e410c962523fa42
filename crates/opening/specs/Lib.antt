-- The definitions that the contracts cite.
pub mod Promises
pub mod Opening
