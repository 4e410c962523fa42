-- The definitions that the contracts cite.
pub mod Represents
pub mod Chosen
