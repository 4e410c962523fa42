-- The definitions that the contracts cite.
pub mod Chains
pub mod Judgeable
pub mod Lent
