-- The definitions that the contracts cite.
pub mod Merging
pub mod Walks
