-- The definitions that the contracts cite.
pub mod Descent
pub mod Links
