-- The definitions that the contracts cite.
pub mod Spread
pub mod Settled
